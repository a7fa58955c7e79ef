use Rattle.std.proofs.Common.{◌≡◌, false, ◌≤◌, []}
use Rattle.session_core.specs.Progress.{Steps}
use Rattle.session_core.specs.Remaining.{is_asking, load_of}
use Rattle.session_core.proofs.session.Session.next.Given as goal

abbrev pub invariant-tasks : goal.invariant-tasks
invariant-tasks l = Steps l.initial.self [] [] l.self
    × ((is_asking l.self ≡ false) × (load_of l.self ≤ load_of l.initial.self))

abbrev pub decreases-tasks : goal.decreases-tasks
decreases-tasks l = load_of l.self
