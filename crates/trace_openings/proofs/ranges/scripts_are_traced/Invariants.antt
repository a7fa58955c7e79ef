-- The scripts before the index have numbers in their ranges.
use Rattle.std.proofs.Common.{All, take}
use Rattle.trace_openings.specs.OpeningTraced.{IsTracedScript}
use Rattle.trace_openings.proofs.ranges.scripts_are_traced.Given as goal

abbrev pub invariant-scripts : goal.invariant-scripts
invariant-scripts l = All IsTracedScript (take l.script-index l.scripts)
