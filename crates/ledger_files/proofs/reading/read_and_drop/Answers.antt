use Rattle.std.proofs.Common.{◌≡◌}
use Rattle.sqlite.specs.Held.{Held, state}
use Rattle.sqlite.specs.State.{HasCleanDisk}
use Rattle.sqlite_ledger.specs.Lines.{ShowsLines}
use Rattle.sqlite_ledger.specs.Schema.{ledger_schema}
use Rattle.ledger_files.specs.Reading.{AreLinesRead}
use Rattle.ledger_files.proofs.ReadStates.{ok_both}
use Rattle.ledger_files.proofs.reading.read_and_drop.Goals as goal

pub returns : goal.returns
returns g c =
    let of = λ (conn : Held g.row.T.Denot). state g.T.Store conn in
    let was = c.args.conn in
    let now = c.read_lines-lines.new.conn in
    ok_both c.read_lines-lines.result (HasCleanDisk (of now))
    (λ lines. was.schema ≡ ledger_schema) (λ lines. ShowsLines of was now lines.items)
    (λ lines. AreLinesRead of was lines.items) c.read_lines-lines.ensures.schema
    c.read_lines-lines.ensures.lines (λ lines has shown. record {
      schema_is = has;
      now = now;
      clean = c.read_lines-lines.ensures.clean;
      shown = shown;
    })
