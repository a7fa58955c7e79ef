use Rattle.ledger_campaigns.proofs.DeskLemmas.{stands_more}
use Rattle.ledger_campaigns.proofs.desk.DeskTurned.turn.Goals as goal

pub returns-clause-ok : goal.returns-clause-ok
returns-clause-ok g c = λ by calls stands. stands_more g.B.Book.is_honest g.B.Book.is_marked
    g.B.Book.keeps _ _ calls by c.args.event c.answer.result c.answer.ensures.start
    c.answer.ensures.answer c.answer.ensures.now c.answer.ensures.grants stands
