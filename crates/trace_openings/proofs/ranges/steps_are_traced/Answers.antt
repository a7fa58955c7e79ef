use Rattle.std.proofs.Common.{arith}
use Rattle.trace_openings.proofs.RangeLemmas.{all_more, all_of}
use Rattle.trace_openings.specs.OpeningTraced.{IsTracedStep}
use Rattle.trace_openings.proofs.ranges.steps_are_traced.Goals as goal

pub steps-preserved : goal.steps-preserved
steps-preserved c =
    all_more IsTracedStep c.args.steps.now c.steps.step-index c.step-item.result
    (omega arith) c.step-item.is c.steps.invariant c.step_is_traced.ensures

pub returns : goal.returns
returns c = all_of IsTracedStep c.args.steps.now c.steps.step-index (omega arith) c.steps.invariant
