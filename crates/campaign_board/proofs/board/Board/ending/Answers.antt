use Rattle.campaign_board.proofs.BoardLemmas.{tells_ending}
use Rattle.campaign_board.proofs.board.Board.ending.Goals as goal

pub returns : goal.returns
returns g c =
    rw (← c.self.view_is) (tells_ending g.B.Book.is_honest g.B.Book.is_marked _ c.args.at
    c.ending_by.result (rw (c.as_slice.ensures.value, c.as_slice-2.ensures.value) at
    c.ending_by.ensures))
