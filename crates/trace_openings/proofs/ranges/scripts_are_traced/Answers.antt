use Rattle.std.proofs.Common.{arith}
use Rattle.trace_openings.proofs.RangeLemmas.{all_more, all_of}
use Rattle.trace_openings.specs.OpeningTraced.{IsTracedScript}
use Rattle.trace_openings.proofs.ranges.scripts_are_traced.Goals as goal

pub scripts-preserved : goal.scripts-preserved
scripts-preserved c =
    all_more IsTracedScript c.args.scripts.now c.scripts.script-index c.script-item.result
    (omega arith) c.script-item.is c.scripts.invariant c.script_is_traced.ensures

pub returns : goal.returns
returns c = all_of IsTracedScript c.args.scripts.now c.scripts.script-index
    (omega arith) c.scripts.invariant
