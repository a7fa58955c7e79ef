use Rattle.std.proofs.Common.{◌≡◌}
use Rattle.sqlite.specs.State.{HasCleanDisk}
use Rattle.sqlite.specs.Files.{file_state}
use Rattle.sqlite_ledger.specs.Schema.{ledger_schema}
use Rattle.ledger_files.proofs.open_ledger_from.Goals as goal

pub returns-in-Ok-open_on_disk-clause-found : goal.returns-in-Ok-open_on_disk-clause-found
returns-in-Ok-open_on_disk-clause-found g c clean =
    let was = c.in-Ok.conn in
    let early : was.schema ≡ ledger_schema → HasCleanDisk (file_state was) = λ ledger.
    c.in-Ok-open_on_disk.ensures.clean ledger clean in
    record {
      from = record {
        was = was;
        opened = λ ledger. c.in-Ok.ensures.opened (early ledger);
        found = λ ledger. c.in-Ok.ensures.found (early ledger);
        unchanged = λ ledger. c.in-Ok-open_on_disk.ensures.unchanged ledger clean;
        settled = c.in-Ok-open_on_disk.ensures.settled;
      };
      has_ledger = λ ledger. c.in-Ok-open_on_disk.ensures.ledger ledger clean;
      new = c.in-Ok-open_on_disk.ensures.new;
    }
