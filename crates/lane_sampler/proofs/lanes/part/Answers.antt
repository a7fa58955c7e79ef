use Rattle.lane_sampler.proofs.MaskLemmas.{part_is}
use Rattle.lane_sampler.proofs.lanes.part.Goals as goal

pub returns-clause-values : goal.returns-clause-values
returns-clause-values c = part_is _ _ _ _ c.min-from.ensures c.min-upto.ensures
