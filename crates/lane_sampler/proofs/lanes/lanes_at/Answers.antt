use Rattle.std.proofs.Common.{nat_lt, w32, arith}
use Rattle.std.specs.Simd.Lanes.{chunk}
use Rattle.std.proofs.lemmas.Simd.{bitmask_splat, length-chunk}
use Rattle.lane_sampler.proofs.MaskLemmas.{bitmask_splat_left}
use Rattle.lane_sampler.proofs.lanes.lanes_at.Goals as goal

pub returns-clause-over : goal.returns-clause-over
returns-clause-over c =
    bitmask_splat_left w32 nat_lt (chunk c.args.at 16 c.args.values.now) 16 c.args.threshold
    (length-chunk c.args.at 16 c.args.values.now c.requires) (omega arith)

pub returns-clause-under : goal.returns-clause-under
returns-clause-under c =
    bitmask_splat w32 nat_lt (chunk c.args.at 16 c.args.values.now) 16 c.args.threshold
    (length-chunk c.args.at 16 c.args.values.now c.requires) (omega arith)
