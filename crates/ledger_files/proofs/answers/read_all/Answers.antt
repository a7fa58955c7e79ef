use Rattle.std.proofs.Common.{◌≡◌, ◌⊎◌, []}
use Rattle.sqlite.specs.Held.{Held, state}
use Rattle.sqlite.specs.State.{HasCleanDisk}
use Rattle.sqlite_ledger.specs.Answers.{AreShown}
use Rattle.sqlite_ledger.specs.AnswersSchema.{answers_schema}
use Rattle.ledger_files.specs.Reading.{AreAnswersRead}
use Rattle.ledger_files.proofs.ReadStates.{ok_both}
use Rattle.ledger_files.proofs.answers.read_all.Goals as goal

pub returns : goal.returns
returns g c =
    let of = λ (conn : Held g.row.T.Denot). state g.T.Store conn in
    let was = c.args.conn in
    let now = c.read_answers_if_made-answers.new.conn in
    let read = c.read_answers_if_made-answers.ensures in
    ok_both c.read_answers_if_made-answers.result
    (HasCleanDisk (of now) × (was.schema ≡ answers_schema))
    (λ answers. (was.schema ≡ answers_schema)
    ⊎ ((was.schema.tables ≡ []) × (answers.items ≡ [])))
    (λ answers. AreShown (of was) (of now) answers.items)
    (λ answers. AreAnswersRead of was answers.items) read.schema
    (λ both. read.answers both.0 both.1) (λ answers has shown. record {
      schema_is = has;
      now = now;
      clean = read.clean;
      shown = λ clean same. shown (clean, same);
    })
