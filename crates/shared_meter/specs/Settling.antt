-- A number of lines of a history that is on the disk (AreDurable).
use Rattle.std.specs.Prelude.{ℕ, ◌≤◌}
use Rattle.turn_lock.specs.History.{StartsWith}
use Rattle.shared_meter.specs.Calls.{Calls}

-- whether at least this number of lines of the history is on the disk, as the first lines of a
-- history that it begins with
pub record AreDurable (IsDurable : Calls → ℕ → Type 0) (calls : Calls) (lines : ℕ) : Type 0 where
  pub saved : Calls
  pub begins : StartsWith calls saved
  pub count : ℕ
  pub enough : lines ≤ count
  pub durable : IsDurable saved count
