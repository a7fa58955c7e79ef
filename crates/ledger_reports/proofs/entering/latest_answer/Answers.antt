use Rattle.std.proofs.Common.{rules}
use Rattle.ledger_reports.proofs.AnswerLemmas.{latest_is, latest_stays}
use Rattle.ledger_reports.proofs.entering.latest_answer.Goals.{then-is_answer_to, else-is_answer_to}
use Rattle.ledger_reports.proofs.entering.latest_answer.Goals as goal

pub answers-preserved : goal.answers-preserved
answers-preserved c =
    let is = latest_is c.args.line.now c.args.answers.now c.answers.answer-index
    c.answer-item.result (search rules) (search rules) in
    let stays = latest_stays c.args.line.now c.args.answers.now c.answers.answer-index
    c.answer-item.result (search rules) (search rules) in
    elim c.if-is_answer_to.branch [
      | then-is_answer_to w ↦ search rules
      | else-is_answer_to w ↦ search rules
    ]
