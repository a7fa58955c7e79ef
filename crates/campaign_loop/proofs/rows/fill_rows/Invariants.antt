use Rattle.campaign_loop.proofs.Filling.{Fills}
use Rattle.campaign_loop.proofs.rows.fill_rows.Given as goal

-- the lines so far have the rows of their places, and all keep their names
abbrev pub invariant-loop-at : goal.invariant-loop-at
invariant-loop-at g l = Fills g.B.Book.is_honest g.B.Book.is_marked l.board l.blank l.fn.lines l.at
    l.lines
