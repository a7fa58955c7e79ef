use Rattle.std.proofs.Common.{sym, inl}
use Rattle.session_core.proofs.Tasks.{waits_again, over_again, asks_or_ends}
use Rattle.session_core.proofs.session.Session.next.Goals as goal

pub returns-then-asking-clause-leaves : goal.returns-then-asking-clause-leaves
returns-then-asking-clause-leaves c = inl (
  sym c.if-asking.ensures,
  waits_again c.args.self.now (sym c.if-asking.ensures),
)

pub returns-then-asking-clause-repeated_end : goal.returns-then-asking-clause-repeated_end
returns-then-asking-clause-repeated_end c = λ end e. absurd
    (asks_or_ends c.args.self.now end (sym c.if-asking.ensures) e)

pub returns-in-Some-clause-leaves : goal.returns-in-Some-clause-leaves
returns-in-Some-clause-leaves c = over_again c.args.self.now c.in-Some.end (sym c.in-Some.ensures)
