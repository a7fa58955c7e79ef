use Rattle.std.proofs.Common.{arith}
use Rattle.lane_sampler.proofs.RunLemmas.{ones_more}
use Rattle.lane_sampler.proofs.runs.end_of_run.Goals as goal

pub returns-then-ones-left_in_word : goal.returns-then-ones-left_in_word
returns-then-ones-left_in_word c = record {
  from = omega arith;
  ones = ones_more _ _ _ _ c.loop-end.invariant.0 c.loop-end.invariant.1
      c.ones_in_word-ones.ensures.set_bits;
  stops = λ _. c.ones_in_word-ones.ensures.stops c.if-ones-left_in_word.true;
}

pub loop-end-preserved : goal.loop-end-preserved
loop-end-preserved c = (
  omega arith,
  ones_more _ _ _ _ c.loop-end.invariant.0 c.loop-end.invariant.1
      c.ones_in_word-ones.ensures.set_bits,
)
