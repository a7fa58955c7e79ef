-- The view that contracts have of a port and of a note.
use Rattle.std.specs.Prelude.{◌≡◌, ℕ, List, Option}
use Rattle.atomic_table.specs.Seated.{TableId}
use Rattle.turn_lock.specs.declared.turned.Entry.{Entry}
use Rattle.turn_lock.specs.declared.known.Known.{Known}

-- A port: its lock, the lock's bound on turns, and the port's knowledge.
pub record ShownPort (E R O : Type 0) : Type 0 where
  pub lock : TableId
  pub bound : ℕ
  pub known : Known E R O

-- whether these are states of one port between which it was not split and none was joined in; it
-- may have made calls
pub record IsSame {E R O : Type 0} (before after : ShownPort E R O) : Type 0 where
  pub lock : after.lock ≡ before.lock
  pub bound : after.bound ≡ before.bound
  pub origin : after.known.origin ≡ before.known.origin
  pub number : after.known.number ≡ before.known.number
  pub splits : after.known.splits ≡ before.known.splits
  pub joined : after.known.joined ≡ before.known.joined

-- A note: its lock, the origin, and the history it records.
pub record ShownNote (E R O : Type 0) : Type 0 where
  pub lock : TableId
  pub origin : Option O
  pub seen : List (Entry E R)
