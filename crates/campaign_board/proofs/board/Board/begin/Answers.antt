use Rattle.std.proofs.Common.{◌+◌, ◌∙◌, sym, arith}
use Rattle.campaign_board.proofs.BoardLemmas.{begins_board, begins_waiting, begins_again}
use Rattle.campaign_board.proofs.board.Board.begin.Goals as goal

pub returns-then-not-is_waiting_at-clause-begins : goal.returns-then-not-is_waiting_at-clause-begins
returns-then-not-is_waiting_at-clause-begins g c =
    rw (← c.self.view_is) (begins_again g.B.Book.is_honest g.B.Book.is_marked _ c.args.at
    c.args.job.now c.args.password.now
    (rw c.as_slice-2.ensures.value at (sym c.is_waiting_at.ensures ∙ c.if-not-is_waiting_at.true)))

pub returns-then-not-is_ready-clause-begins : goal.returns-then-not-is_ready-clause-begins
returns-then-not-is_ready-clause-begins g c =
    rw (← c.self.view_is) (begins_waiting g.B.Book.is_honest g.B.Book.is_marked _ c.args.at
    c.args.job.now c.args.password.now
    (rw (c.as_slice-3.ensures.value, c.as_slice-4.ensures.value) at
    (sym c.is_ready.ensures ∙ c.if-not-is_ready.true)))

pub returns-clause-begins : goal.returns-clause-begins
returns-clause-begins g c =
    rw (← c.self.view_is, c.reserve.ensures.items) (begins_board g.B.Book.is_honest
    g.B.Book.is_marked _ c.args.at c.args.job.now c.args.password.now c.in_ok-talk.talk
    c.open_at.new.places.items (c.self.inside.busy + 1) (omega arith)
    (rw c.as_slice.ensures.value at (sym c.is_not_sent.ensures ∙ c.if-not-is_not_sent.false))
    (rw (c.as_slice-3.ensures.value, c.as_slice-4.ensures.value) at
    (sym c.is_ready.ensures ∙ c.if-not-is_ready.false)) c.in_ok-talk.ensures
    (rw c.in_ok-talk-2.ensures.ok at c.open_at.ensures) (omega arith))
