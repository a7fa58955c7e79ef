use Rattle.std.proofs.Common.{sym, ap, subst}
use Rattle.sqlite.specs.Held.{Held, state}
use Rattle.sqlite.specs.State.{HasCleanDisk}
use Rattle.sqlite_ledger.proofs.InsertStates.{IsSettled}
use Rattle.sqlite_ledger.specs.Answers.{IsSafe, answer_rows}
use Rattle.ledger_files.proofs.AppendedStates.{appends}
use Rattle.ledger_files.proofs.answers.append.Goals as goal

pub returns : goal.returns
returns g c =
    let settled : (h : Held _) → IsSettled (state g.T.Store h) = λ h. record {
      settled = λ o db
          left. g.met.T.Store.settled h.store db o left;
      stays = λ o. g.met.T.Store.stays h.store o;
    }
    in
    let start = c.open_answers.new.conn in
    let mid = c.last_number.new.conn in
    let new = c.add_answers.new.conn in
    appends (state g.T.Store c.args.conn.now) (state g.T.Store start) (state g.T.Store mid)
    (state g.T.Store new) c.args.answers.now c.add_answers.result (settled start) (settled mid)
    c.in_ok-open_answers.ensures.schema
    (λ has. subst (λ (h : Held _). HasCleanDisk (state g.T.Store h))
    (c.open_answers.ensures.unchanged has))
    (λ has other. subst (λ (h : Held _). IsSafe (state g.T.Store h).may_leave other)
    (sym (c.open_answers.ensures.unchanged has)))
    c.last_number.ensures.clean c.in_ok-last.ensures.unchanged c.add_answers.ensures.clean
    c.add_answers.ensures.recorded c.add_answers.ensures.remains_recorded
    (λ has. ap (λ (h : Held _). answer_rows (state g.T.Store h))
    (c.open_answers.ensures.unchanged has))
    c.add_answers.ensures.added
