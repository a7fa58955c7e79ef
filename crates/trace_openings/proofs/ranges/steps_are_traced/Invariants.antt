-- The steps before the index have numbers in their ranges.
use Rattle.std.proofs.Common.{All, take}
use Rattle.trace_openings.specs.OpeningTraced.{IsTracedStep}
use Rattle.trace_openings.proofs.ranges.steps_are_traced.Given as goal

abbrev pub invariant-steps : goal.invariant-steps
invariant-steps l = All IsTracedStep (take l.step-index l.steps)
