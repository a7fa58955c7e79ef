use Rattle.campaign_board.proofs.BoardLemmas.{hears_any, hears_board, hears_err}
use Rattle.campaign_board.proofs.board.Board.receive.Goals as goal

pub returns-after-push-clause-hears : goal.returns-after-push-clause-hears
returns-after-push-clause-hears g c =
    rw (← c.self.view_is) (hears_any g.B.Book.is_honest g.B.Book.is_marked _ c.args.at
    c.args.bytes.now c.in-Ok-true.field-0 c.match-push.result c.receive_at.new.places.items
    c.in-Ok-true.ensures)

pub returns-in-Ok-false-clause-hears : goal.returns-in-Ok-false-clause-hears
returns-in-Ok-false-clause-hears g c =
    rw (← c.self.view_is) (hears_board g.B.Book.is_honest g.B.Book.is_marked _ c.args.at
    c.args.bytes.now c.in-Ok-false.field-0 tt c.receive_at.new.places.items c.in-Ok-false.ensures)

pub returns-in-Err-clause-hears : goal.returns-in-Err-clause-hears
returns-in-Err-clause-hears g c =
    rw (← c.self.view_is) (hears_err g.B.Book.is_honest g.B.Book.is_marked _ c.args.at
    c.args.bytes.now (record {}) _ c.receive_at.new.places.items c.in-Err.ensures)
