use Rattle.campaign_board.proofs.BoardLemmas.{commits_ok, commits_err}
use Rattle.campaign_board.proofs.board.Board.commit.Goals as goal

pub returns-in-Ok-clause-commits : goal.returns-in-Ok-clause-commits
returns-in-Ok-clause-commits g c =
    rw (← c.self.view_is, c.clear-in-Ok.ensures.items)
    (commits_ok g.B.Book.is_honest g.B.Book.is_marked _ c.keep_due.new.marks.items tt
    c.commit.new.self c.clear_marked.new.places.items
    (rw c.as_slice.ensures.value at c.keep_due.ensures) c.commit.ensures.honest
    (λ trust place here. c.in-Ok.ensures.durable trust place (rw c.as_slice-2.ensures.value here))
    c.commit.ensures.remains_marked
    (rw c.as_slice-in-Ok.ensures.value at c.clear_marked.ensures))

pub returns-in-Err-clause-commits : goal.returns-in-Err-clause-commits
returns-in-Err-clause-commits g c =
    rw (← c.self.view_is)
    (commits_err g.B.Book.is_honest g.B.Book.is_marked _ c.keep_due.new.marks.items
    c.in-Err.fault c.commit.new.self c.commit.ensures.honest c.commit.ensures.remains_marked)
