use Rattle.std.proofs.Common.{◌≤◌, length, ◌+◌, arith}
use Rattle.lane_sampler.specs.Masks.{is_over, is_under}
use Rattle.lane_sampler.proofs.MaskLemmas.{word_more}
use Rattle.lane_sampler.proofs.lanes.word_by_lanes.Goals as goal

pub loop-at-preserved : goal.loop-at-preserved
loop-at-preserved c =
    let within : c.loop-at.at + 16 ≤ length c.args.values.now = omega arith in
    let few : c.loop-at.at + 16 ≤ 64 = omega arith in (
      within,
      record {
        over = word_more (is_over c.args.threshold) c.args.values.now c.loop-at.at 16 _ _ within few
            c.loop-at.invariant.1.over c.lanes_at-lanes.ensures.over;
        under = word_more (is_under c.args.threshold) c.args.values.now c.loop-at.at 16 _
            _ within few
            c.loop-at.invariant.1.under c.lanes_at-lanes.ensures.under;
      },
    )
