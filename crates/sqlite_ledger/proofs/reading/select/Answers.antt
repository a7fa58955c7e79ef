use Rattle.std.proofs.Common.{[]}
use Rattle.sqlite.specs.Held.{state}
use Rattle.sqlite.specs.State.{Shown}
use Rattle.sqlite_ledger.proofs.ReadLemmas.{ok_then, shown_unchanged}
use Rattle.sqlite_ledger.proofs.reading.select.Goals as goal

pub returns-clause-unchanged : goal.returns-clause-unchanged
returns-clause-unchanged g c clean plain =
    let old = state g.S.Store c.args.conn.now in
    let new = state g.S.Store c.query_all.new.self in
    ok_then c.query_all.result (λ rows. Shown c.args.query.now [] old new rows.items) _
    (c.query_all.ensures.ok clean) (λ rows shown. shown_unchanged c.args.query.now old new
    rows.items plain shown)
