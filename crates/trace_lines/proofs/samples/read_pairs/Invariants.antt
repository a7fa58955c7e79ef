use Rattle.std.proofs.Common.{◌-◌, vec_len}
use Rattle.lane_sampler.specs.declared.samples.TheConstants.{MAX_VALUES}
use Rattle.trace_lines.specs.Parts.{pair_part}
use Rattle.trace_words.proofs.Steps.{ItemsSoFar}
use Rattle.trace_lines.proofs.samples.read_pairs.Given as goal

abbrev pub invariant-items : goal.invariant-items
invariant-items l = record {
  terms : (goal.iterator-items).can_next l.words
      × (goal.iterator-items).is_finite l.words;
  so_far : ItemsSoFar pair_part MAX_VALUES l.pairs.items l.words l.initial.words;
}

abbrev pub decreases-items : goal.decreases-items
decreases-items l = MAX_VALUES - vec_len l.pairs
