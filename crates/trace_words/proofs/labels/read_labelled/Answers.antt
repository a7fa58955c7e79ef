use Rattle.std.proofs.Common.{refl}
use Rattle.std.specs.Fn.{FnOnceReturnsAt}
use Rattle.trace_words.proofs.PlaceLemmas.{answer_is, fault_is}
use Rattle.trace_words.specs.Rows.{Word}
use Rattle.trace_words.proofs.labels.read_labelled.Goals as goal

pub returns-clause-answered : goal.returns-clause-answered
returns-clause-answered g c =
    answer_is (λ r. (word : Word) × FnOnceReturnsAt g.F.FnOnce c.args.parse word r)
    c.parse.result
    (c.in_ok-last_word.field-0.now, (c.in_ok-last_word.field-0, c.parse.ensures, refl))

pub returns-clause-memory : goal.returns-clause-memory
returns-clause-memory g c = λ e.
    fault_is (λ r. (word : Word) × FnOnceReturnsAt g.F.FnOnce c.args.parse word r)
    c.parse.result _
    (c.in_ok-last_word.field-0.now, (c.in_ok-last_word.field-0, c.parse.ensures, refl)) e
