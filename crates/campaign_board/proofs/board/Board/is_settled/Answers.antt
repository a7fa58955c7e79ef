use Rattle.campaign_board.proofs.BoardLemmas.{settled_if}
use Rattle.campaign_board.proofs.board.Board.is_settled.Goals as goal

pub returns : goal.returns
returns g c =
    rw (← c.self.view_is) (settled_if g.B.Book.is_honest g.B.Book.is_marked c.are_settled.result _
    (rw (c.as_slice.ensures.value, c.as_slice-2.ensures.value) at c.are_settled.ensures))
