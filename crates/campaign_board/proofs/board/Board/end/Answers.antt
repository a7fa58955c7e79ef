use Rattle.std.proofs.Common.{refl}
use Rattle.campaign_board.proofs.BoardLemmas.{ends_board, ends_nothing, ends_idle}
use Rattle.campaign_board.proofs.board.Board.end.Goals as goal

pub returns-then-self-eq0-clause-ends : goal.returns-then-self-eq0-clause-ends
returns-then-self-eq0-clause-ends g c =
    rw (← c.self.view_is) (ends_idle g.B.Book.is_honest g.B.Book.is_marked _ c.args.at
    c.if-self-eq0.true)

pub returns-then-ending-clause-ends : goal.returns-then-ending-clause-ends
returns-then-ending-clause-ends g c =
    rw (← c.self.view_is) (ends_board g.B.Book.is_honest g.B.Book.is_marked _ c.args.at
    c.in-Some.ending c.end_at.new.places.items _ c.store.new.outcomes.items c.in-Some.ensures refl
    (rw c.if-ending.true c.store.ensures.items))

pub returns-else-ending-clause-ends : goal.returns-else-ending-clause-ends
returns-else-ending-clause-ends g c =
    rw (← c.self.view_is) (ends_board g.B.Book.is_honest g.B.Book.is_marked _ c.args.at
    c.in-Some.ending c.end_at.new.places.items _ c.self.inside.outcomes.items c.in-Some.ensures refl
    (rw c.if-ending.false refl))

pub returns-in-None-clause-ends : goal.returns-in-None-clause-ends
returns-in-None-clause-ends g c =
    rw (← c.self.view_is) (ends_nothing g.B.Book.is_honest g.B.Book.is_marked _ c.args.at
    c.end_at.new.places.items c.in-None.ensures)
