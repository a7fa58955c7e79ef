-- The first digits were read.
use Rattle.text_lines.proofs.NumbersLemmas.{Taken}
use Rattle.text_lines.proofs.numbers.value_of.Given as goal

abbrev pub invariant-digits : goal.invariant-digits
invariant-digits l = Taken l.limit l.word l.i l.number
