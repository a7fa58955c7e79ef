use Rattle.std.proofs.Common.{[]}
use Rattle.sqlite.specs.Held.{state}
use Rattle.sqlite.specs.State.{Shown}
use Rattle.sqlite_ledger.proofs.ReadLemmas.{ok_then, shown_unchanged}
use Rattle.sqlite_ledger.specs.Answers.{select_last}
use Rattle.sqlite_ledger.proofs.AnswerReads.{last_plain}
use Rattle.sqlite_ledger.proofs.answers.adding.select_last.Goals as goal

pub returns-clause-unchanged : goal.returns-clause-unchanged
returns-clause-unchanged g c clean has =
    let old = state g.S.Store c.args.conn.now in
    let new = state g.S.Store c.query_all.new.self in
    let plain = last_plain in
    ok_then c.query_all.result (λ rows. Shown select_last [] old new rows.items) _
    (c.query_all.ensures.ok clean) (λ rows shown. shown_unchanged select_last old new rows.items
    (rw has plain) shown)
