use Rattle.sqlite.specs.Files.{file_state}
use Rattle.sqlite_ledger.proofs.ReadLemmas.{ok_map}
use Rattle.ledger_files.specs.Reading.{AreLinesFrom, AreLinesRead}
use Rattle.ledger_files.proofs.reading.read_ledger_from.Goals as goal

pub returns-in-Ok : goal.returns-in-Ok
returns-in-Ok g c = ok_map c.read_on_disk.result
    (λ lines. AreLinesRead (λ conn. file_state conn) c.in-Ok.conn lines.items)
    (λ lines. AreLinesFrom _ _ lines.items) c.read_on_disk.ensures (λ lines read. record {
      was = c.in-Ok.conn;
      opened = c.in-Ok.ensures.opened;
      found = c.in-Ok.ensures.found;
      read = read;
    })
