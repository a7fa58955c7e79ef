use Rattle.ledger_reports.proofs.AnswerLemmas.{Enters}
use Rattle.ledger_reports.proofs.entering.enter_answers.Given as goal

-- the lines so far have their answers
abbrev pub invariant-loop-i : goal.invariant-loop-i
invariant-loop-i l = Enters l.answers l.fn.lines l.i l.lines
