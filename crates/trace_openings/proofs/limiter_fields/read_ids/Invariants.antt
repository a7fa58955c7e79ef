use Rattle.std.proofs.Common.{◌-◌, vec_len}
use Rattle.limiter_core.specs.declared.settings.TheConstants.{MAX_GROUPS}
use Rattle.trace_openings.specs.OpeningFields.{id_from}
use Rattle.trace_words.specs.Rows.{all_at}
use Rattle.trace_words.proofs.Steps.{SoFar}
use Rattle.trace_openings.proofs.limiter_fields.read_ids.Given as goal

abbrev pub invariant-items : goal.invariant-items
invariant-items l = record {
  terms : (goal.iterator-items).can_next l.words
      × (goal.iterator-items).is_finite l.words;
  so_far : SoFar _ id_from MAX_GROUPS l.ids.items l.words
      (all_at id_from MAX_GROUPS l.initial.words);
}

abbrev pub decreases-items : goal.decreases-items
decreases-items l = MAX_GROUPS - vec_len l.ids
