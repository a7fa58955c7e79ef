use Rattle.std.proofs.Common.{codes, refl, subst, sym}
use Rattle.text_lines.specs.Lines.{IsPlain}
use Rattle.text_lines.proofs.PlainLemmas.{plain_word}
use Rattle.trace_lines.specs.Reading.{parameter_word}
use Rattle.trace_lines.proofs.PlainLines.{on_ok_any}
use Rattle.trace_lines.proofs.writing.add_parameter.Goals as goal

pub returns-in-None-clause-plain : goal.returns-in-None-clause-plain
returns-in-None-clause-plain c =
    on_ok_any c.add_word.result (subst (λ parameter. IsPlain (parameter_word parameter))
    (sym c.in-None.is) (plain_word (codes "-") refl))
