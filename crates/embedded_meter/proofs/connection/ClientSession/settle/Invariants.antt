-- The meter applied some of the requests, and the rest remains. Each step reduces the work that is
-- left.
use Rattle.std.proofs.Common.{[]}
use Rattle.embedded_meter.specs.Progress.{Advances}
use Rattle.embedded_meter.specs.Working.{weight}
use Rattle.embedded_meter.proofs.connection.ClientSession.settle.Given as goal

abbrev pub invariant-work : goal.invariant-work
invariant-work l = Advances l.initial.self l.initial.recorder [] l.self l.recorder

abbrev pub decreases-work : goal.decreases-work
decreases-work l = weight l.self
