use Rattle.std.proofs.Common.{rules, ◌≡◌, None, get_or, refl, sym, ◌∙◌}
use Rattle.text_lines.proofs.NumbersLemmas.{digit_taken, digit_refused, all_taken}
use Rattle.text_lines.proofs.numbers.value_of.Goals as goal

pub returns-in_err-number : goal.returns-in_err-number
returns-in_err-number c =
    let none : c.from_residual.result ≡ None = search rules in
    none ∙ sym (digit_refused c.args.limit c.args.word.now c.digits.i c.digits.number
    (get_or c.args.word.now c.digits.i 0) c.digits-test.true refl
    c.in_err-number.ensures c.digits.invariant)

pub digits-preserved : goal.digits-preserved
digits-preserved c =
    digit_taken c.args.limit c.args.word.now c.digits.i c.digits.number
    (get_or c.args.word.now c.digits.i 0) c.in_ok-number.number c.digits-test.true refl
    c.in_ok-number.ensures c.digits.invariant

pub returns : goal.returns
returns c = sym (all_taken c.args.limit c.args.word.now c.digits.i c.digits.number
    c.digits-test.false c.digits.invariant)
