use Rattle.std.proofs.Common.{[], append-nil}
use Rattle.sqlite.specs.Held.{state}
use Rattle.sqlite_ledger.proofs.GroupStates.{adds_more, twice}
use Rattle.sqlite_ledger.proofs.grouping.insert_rows.Goals as goal

pub returns-clause-added : goal.returns-clause-added
returns-clause-added g c clean inside =
    let old = state g.S.Store c.args.conn.now in
    let mid = state g.S.Store c.insert_marks.new.conn in
    let new = state g.S.Store c.insert_outcomes.new.conn in
    let early = c.in_ok-insert_marks.ensures.added (c.insert_outcomes.ensures.clean clean) inside in
    rw (append-nil c.args.marks.now) at
    (adds_more old mid new c.seconds-second.result c.args.marks.now [] [] c.args.outcomes.now early
    (c.in_ok-insert_outcomes.ensures.added clean early.inside))

pub returns-in_err-insert_outcomes-clause-crash : goal.returns-in_err-insert_outcomes-clause-crash
returns-in_err-insert_outcomes-clause-crash g c clean inside =
    let early = c.insert_outcomes.ensures.clean clean in
    twice (state g.S.Store c.args.conn.now) (state g.S.Store c.insert_marks.new.conn)
    (state g.S.Store c.insert_outcomes.new.conn) (c.insert_marks.ensures.crash early inside)
    (c.insert_outcomes.ensures.crash clean
    (c.in_ok-insert_marks.ensures.added early inside).inside)

pub returns-clause-crash : goal.returns-clause-crash
returns-clause-crash g c clean inside =
    let early = c.insert_outcomes.ensures.clean clean in
    twice (state g.S.Store c.args.conn.now) (state g.S.Store c.insert_marks.new.conn)
    (state g.S.Store c.insert_outcomes.new.conn) (c.insert_marks.ensures.crash early inside)
    (c.insert_outcomes.ensures.crash clean
    (c.in_ok-insert_marks.ensures.added early inside).inside)
