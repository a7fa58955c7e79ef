use Rattle.campaign_board.proofs.BoardLemmas.{gives_board}
use Rattle.campaign_board.proofs.board.Board.next_text.Goals as goal

pub returns-clause-gives : goal.returns-clause-gives
returns-clause-gives g c = rw (← c.self.view_is)
    (gives_board g.B.Book.is_honest g.B.Book.is_marked _ c.args.at
    c.next_text_at.result c.next_text_at.new.places.items c.next_text_at.ensures)
