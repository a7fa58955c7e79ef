-- What the public calls promise about a port's knowledge, before and after the call.
use Rattle.std.specs.Prelude.{◌≡◌, ℕ, ◌+◌, ◌<◌, ◌≤◌, List, [], ◌∷◌, ◌++◌, length, Option, Some}
use Rattle.std.specs.Prelude.{Result, Ok, Err}
use Rattle.turn_lock.specs.declared.turned.Entry.{Entry}
use Rattle.turn_lock.specs.declared.known.Known.{Known}
use Rattle.turn_lock.specs.declared.faults.Busy.{Busy}
use Rattle.turn_lock.specs.declared.call_fault.CallFault.{CallFault}
use Rattle.turn_lock.specs.declared.call_fault.CallFault.TheVariants.{Memory, Exhausted, Journal}
use Rattle.turn_lock.specs.History.{StartsWith, IsAmong, entry, calls_by}
use Rattle.turn_lock.specs.Rule.{fresh_known, IsOwn, IsUnused}

-- whether the port has an origin, and the history that it has seen is legal from that origin
pub record IsLegal {E R O : Type 0} (legal : O → List (Entry E R) → Type 0) (known : Known E R O)
    : Type 0 where
  pub origin : O
  pub origin_is : known.origin ≡ Some origin
  pub legal_history : legal origin known.seen

-- whether the port has seen a legal history that begins with the one it saw before and has no
-- further call of the port's own number or of a number joined into it
pub record Sees {E R O : Type 0} (legal : O → List (Entry E R) → Type 0)
    (before after : Known E R O) : Type 0 where
  pub origin : after.origin ≡ before.origin
  pub number : after.number ≡ before.number
  pub splits : after.splits ≡ before.splits
  pub drawn : before.drawn ≤ after.drawn
  pub served : before.served ≤ after.served
  pub seen : StartsWith after.seen before.seen
  pub lawful : IsLegal legal after
  pub own_calls : (q : List ℕ) → IsOwn before q → calls_by q after.seen ≡ calls_by q before.seen

-- whether `Sees` holds, and no port was joined in
pub record Watches {E R O : Type 0} (legal : O → List (Entry E R) → Type 0)
    (before after : Known E R O) : Type 0 where
  pub sees : Sees legal before after
  pub joined : after.joined ≡ before.joined

-- Whether the port has seen a legal history that begins with the one it saw before and ends with
-- this call, the only further call of the port's number. No further call has a number that was
-- joined into the port.
pub record Called {E R O : Type 0} (legal : O → List (Entry E R) → Type 0) (before : Known E R O)
    (event : E) (reply : R) (after : Known E R O) : Type 0 where
  pub origin : after.origin ≡ before.origin
  pub number : after.number ≡ before.number
  pub splits : after.splits ≡ before.splits
  pub joined : after.joined ≡ before.joined
  pub drawn : before.drawn ≤ after.drawn
  pub served : before.served ≤ after.served
  pub seen : (between : List (Entry E R))
      × (after.seen ≡ (before.seen ++ between) ++ entry before.number event reply ∷ [])
  pub lawful : IsLegal legal after
  pub own_calls : calls_by before.number after.seen ≡ calls_by before.number before.seen
      ++ entry before.number event reply ∷ []
  pub joined_calls : (q : List ℕ) → IsAmong q before.joined
      → calls_by q after.seen ≡ calls_by q before.seen

-- Whether this may be the cause of a refusal by a lock: `Memory` only if the event may allocate,
-- `Exhausted` only if the port has read that at least `bound` turns were drawn. A lock has no
-- journal.
abbrev pub IsCause : {E R O : Type 0} → (E → Type 0) → E → ℕ → Known E R O → CallFault → Type 0
IsCause sure event bound after Memory = ¬ sure event
IsCause sure event bound after Exhausted = bound ≤ after.drawn
IsCause sure event bound after Journal = ⊥

-- whether a call that returned a reply or `Memory` ended a turn of its own, drawn after the last
-- turn that the port had read of; nothing is claimed of one that was refused because all turns were
-- drawn
abbrev pub EndsTurn : {E R O A : Type 0} → Known E R O → Known E R O → Result A CallFault → Type 0
EndsTurn before after (Ok answer) = before.drawn < after.drawn
EndsTurn before after (Err Memory) = before.drawn < after.drawn
EndsTurn before after (Err Exhausted) = Unit {0}
EndsTurn before after (Err Journal) = ⊥

-- whether a lock was not closed because it was busy: the port read that `served` turns had ended,
-- at least one for each call it had seen, and then that more had been drawn
pub record IsBusy {E R O : Type 0} (before after : Known E R O) (busy : Busy) : Type 0 where
  pub served : busy.served ≡ after.served
  pub counted : length before.seen ≤ busy.served
  pub drawn : busy.drawn ≡ after.drawn
  pub more : busy.served < busy.drawn

-- the knowledge of a port that was split
abbrev pub parent_after_split : {E R O : Type 0} → Known E R O → Known E R O
parent_after_split known = record known { splits = known.splits + 1 }

-- the knowledge of the port that was split off: its number is the parent's, followed by the
-- parent's count of splits before
abbrev pub child_after_split : {E R O : Type 0} → Known E R O → Known E R O
child_after_split known = fresh_known known.origin (known.number ++ known.splits ∷ []) known.seen

-- whether the port has seen all that the note has, and both have the same origin
pub record Meets {E R O : Type 0} (legal : O → List (Entry E R) → Type 0) (before : Known E R O)
    (origin : Option O) (note : List (Entry E R)) (after : Known E R O) : Type 0 where
  pub watches : Watches legal before after
  pub note_seen : StartsWith after.seen note
  pub same_origin : origin ≡ before.origin

-- Whether the port has taken in the other port, which has the same origin: its number, the numbers
-- joined into it, and all that it had seen. There is no further call of these numbers.
pub record Joins {E R O : Type 0} (legal : O → List (Entry E R) → Type 0)
    (before other after : Known E R O) : Type 0 where
  pub sees : Sees legal before after
  pub joined : after.joined ≡ before.joined
      ++ record { number = other.number; splits = other.splits } ∷ other.joined
  pub drawn : other.drawn ≤ after.drawn
  pub other_seen : StartsWith after.seen other.seen
  pub same_origin : other.origin ≡ before.origin
  pub other_calls : (q : List ℕ) → IsOwn other q → calls_by q after.seen ≡ calls_by q other.seen

-- whether the value results from a legal history that begins with all that the port had seen and
-- has no further call of the port's number or of a number joined into it, and none of a number that
-- no port has
pub record Yields {T E R O : Type 0} (origin : T → O) (stands : T → List (Entry E R) → Type 0)
    (legal : O → List (Entry E R) → Type 0) (known : Known E R O) (value : T) : Type 0 where
  pub origin_is : known.origin ≡ Some (origin value)
  pub history : List (Entry E R)
  pub results : stands value history
  pub lawful : legal (origin value) history
  pub seen : StartsWith history known.seen
  pub own_calls : (q : List ℕ) → IsOwn known q → calls_by q history ≡ calls_by q known.seen
  pub unused : (q : List ℕ) → IsUnused known q → calls_by q history ≡ []

-- whether a finding is right for the history that a port has seen, by the origin of its lock
abbrev pub FindsOf : {E R O Q A : Type 0} → (finds : O → List (Entry E R) → Q → A → Type 0)
    → Known E R O → Q → A → Type 0
FindsOf {O = O} finds known question finding =
    (origin : O) × (known.origin ≡ Some origin) × finds origin known.seen question finding
