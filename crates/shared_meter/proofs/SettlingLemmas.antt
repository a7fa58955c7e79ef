-- Lines of a history that are on the disk, and the number of lines that a question finds.
use Rattle.std.proofs.Common.{◌≡◌, ℕ, ◌≤◌, length, Option, Some, None, arith, le_refl, subst}
use Rattle.std.specs.Prelude.{IfSome}
use Rattle.turn_lock.specs.History.{StartsWith}
use Rattle.turn_lock.proofs.Lists.{starts_refl, starts_trans}
use Rattle.relay_core.specs.declared.opening.Opening.{Opening}
use Rattle.shared_meter.specs.Calls.{Calls, Finds}
use Rattle.shared_meter.specs.Pending.{lines_of_calls}
use Rattle.shared_meter.specs.Settling.{AreDurable}
use Rattle.shared_meter.specs.declared.pending.Finding.{Finding}
use Rattle.shared_meter.specs.declared.pending.Finding.TheVariants.{Count}
use Rattle.shared_meter.specs.declared.pending.Question.TheVariants as question

-- what a journal says that never waits
pub durable_at_once : (IsDurable : Calls → ℕ → Type 0) (calls : Calls) (lines : ℕ)
    → IsDurable calls lines → AreDurable IsDurable calls lines
durable_at_once IsDurable calls lines durable = record {
  saved = calls;
  begins = starts_refl calls;
  count = lines;
  enough = le_refl lines;
  durable = durable;
}

-- lines of a history that are on the disk are those of a longer one
pub durable_later : (IsDurable : Calls → ℕ → Type 0) (before after : Calls) (lines : ℕ)
    → StartsWith after before → AreDurable IsDurable before lines
    → AreDurable IsDurable after lines
durable_later IsDurable before after lines longer are = record {
  saved = are.saved;
  begins = starts_trans after before are.saved longer are.begins;
  count = are.count;
  enough = are.enough;
  durable = are.durable;
}

-- lines of which it is known that they are on the disk are there later
pub known_later : (IsDurable : Calls → ℕ → Type 0) (before after : Calls) (known : Option ℕ)
    → StartsWith after before → IfSome known (AreDurable IsDurable before)
    → IfSome known (AreDurable IsDurable after)
known_later IsDurable before after (Some lines) longer are =
    durable_later IsDurable before after lines longer are
known_later IsDurable before after None longer are = tt

-- fewer lines are on the disk too
pub durable_fewer : (IsDurable : Calls → ℕ → Type 0) (calls : Calls) (lines fewer : ℕ)
    → fewer ≤ lines → AreDurable IsDurable calls lines → AreDurable IsDurable calls fewer
durable_fewer IsDurable calls lines fewer less are = record {
  saved = are.saved;
  begins = are.begins;
  count = are.count;
  enough = omega (arith, less, are.enough);
  durable = are.durable;
}

-- the number of lines that was found
pub found_count : (origin : Opening) (calls : Calls) (found : Finding) (lines : ℕ)
    → found ≡ Count lines → Finds origin calls question.Count found
    → lines ≡ length (lines_of_calls calls)
found_count origin calls found lines is finds = subst (Finds origin calls question.Count) is finds
