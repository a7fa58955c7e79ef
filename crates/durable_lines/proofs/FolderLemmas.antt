-- Calls on a folder, one after another.
use Rattle.std.proofs.Common.{ℕ, List, [], ◌∷◌, ◌++◌, sym, ◌∙◌, ap}
use Rattle.std.proofs.Common.{Result, Ok, Err, OnOk, append_assoc, append-nil}
use Rattle.std.specs.List.{AllByRecursion}
use Rattle.durable_lines.specs.RawFolder.{FolderCall, IsElsewhere, LeavesName}

-- two lists of calls, each of which is elsewhere
all_both : (name : List ℕ) (first second : List FolderCall)
    → AllByRecursion (IsElsewhere name) first → AllByRecursion (IsElsewhere name) second
    → AllByRecursion (IsElsewhere name) (first ++ second)
all_both name [] second one two = two
all_both name (call ∷ first) second one two = (one.0, all_both name first second one.1 two)

-- no call
pub leaves_none : (name : List ℕ) (calls : List FolderCall) → LeavesName name calls calls
leaves_none name calls = ([], sym (append-nil calls), tt)

-- some calls, and then others
pub leaves_then : (name : List ℕ) (old mid new : List FolderCall) → LeavesName name old mid
    → LeavesName name mid new → LeavesName name old new
leaves_then name old mid new one two = (
  one.0 ++ two.0,
  two.1 ∙ ap (λ (calls : List FolderCall). calls ++ two.0) one.1
      ∙ append_assoc old one.0 two.0,
  all_both name one.0 two.0 one.2 two.2,
)

-- what holds of any result holds after success
pub on_ok_any : {T E P : Type 0} (r : Result T E) → P → OnOk r P
on_ok_any (Ok value) is = is
on_ok_any (Err error) is = tt
