use Rattle.std.proofs.Common.{inr}
use Rattle.sqlite.specs.Files.{file_state}
use Rattle.sqlite_ledger.proofs.ReadLemmas.{ok_map}
use Rattle.ledger_files.specs.Reading.{AreAnswersFrom, AreAnswersRead}
use Rattle.ledger_files.proofs.answers.read_answers_from.Goals as goal

pub returns-in-Ok : goal.returns-in-Ok
returns-in-Ok g c = ok_map c.read_answers_on_disk.result
    (λ answers. AreAnswersRead (λ conn. file_state conn) c.in-Ok.conn answers.items)
    (λ answers. AreAnswersFrom _ _ answers.items) c.read_answers_on_disk.ensures
    (λ answers read. inr (record {
      was = c.in-Ok.conn;
      opened = c.in-Ok.ensures.opened;
      found = c.in-Ok.ensures.found;
      read = read;
    }))
