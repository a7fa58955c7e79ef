use Rattle.std.proofs.Common.{rules}
use Rattle.lane_sampler.specs.Masks.{words_of}
use Rattle.lane_sampler.proofs.BitLemmas.{bits_from_words}
use Rattle.lane_sampler.proofs.lanes.classify_plain.Goals as goal

pub returns-clause-bits : goal.returns-clause-bits
unfolding words_of
returns-clause-bits c = bits_from_words _ _ _ (search rules)
