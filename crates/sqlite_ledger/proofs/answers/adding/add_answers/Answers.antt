use Rattle.std.proofs.Common.{rules}
use Rattle.sqlite.specs.Held.{state}
use Rattle.sqlite_ledger.proofs.AddedStates.{adds_more}
use Rattle.sqlite_ledger.proofs.answers.adding.add_answers.Goals as goal

pub answers-preserved : goal.answers-preserved
answers-preserved g c =
    adds_more (state g.S.Store c.args.conn.now) (state g.S.Store c.answers.conn)
    (state g.S.Store c.insert_answer.new.conn) c.args.answers.now c.answers.answer-index
    c.answer-item.result (search rules) (search rules) c.answers.invariant (record {
      clean = c.in_ok-insert_answer.ensures.clean;
      schema = c.in_ok-insert_answer.ensures.schema;
      recorded = c.in_ok-insert_answer.ensures.recorded;
      remains = c.in_ok-insert_answer.ensures.remains_recorded;
      added = c.in_ok-insert_answer.ensures.added;
    })
