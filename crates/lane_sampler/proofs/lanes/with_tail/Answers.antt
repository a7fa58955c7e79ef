use Rattle.std.proofs.Common.{◌≤◌, length, ◌+◌, ◌<◌, arith, ◌∙◌}
use Rattle.lane_sampler.specs.Masks.{is_over, is_under}
use Rattle.lane_sampler.proofs.MaskLemmas.{word_more, word_of_one}
use Rattle.lane_sampler.proofs.lanes.with_tail.Goals as goal

pub loop-at-preserved : goal.loop-at-preserved
loop-at-preserved c =
    let within : c.loop-at.at < length c.args.values.now = omega arith in
    let few : c.loop-at.at + 1 ≤ 64 = omega arith in
    record {
      over = word_more (is_over c.args.threshold) c.args.values.now c.loop-at.at 1 _ _
          (omega arith) few
          c.loop-at.invariant.over (c.from.ensures ∙ word_of_one (is_over c.args.threshold)
          c.args.values.now c.loop-at.at within);
      under = word_more (is_under c.args.threshold) c.args.values.now c.loop-at.at 1 _ _
          (omega arith) few
          c.loop-at.invariant.under (c.from-in-loop-at.ensures ∙ word_of_one
          (is_under c.args.threshold) c.args.values.now c.loop-at.at within);
    }
