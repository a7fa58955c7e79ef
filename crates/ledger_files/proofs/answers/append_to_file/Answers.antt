use Rattle.ledger_files.proofs.AppendedStates.{if_ok}
use Rattle.ledger_files.proofs.answers.append_to_file.Goals as goal

pub returns-in-Ok-append_on_disk : goal.returns-in-Ok-append_on_disk
returns-in-Ok-append_on_disk g c = if_ok c.close_answers.result (record {
  was = c.in-Ok.conn;
  now = c.in-Ok-append_on_disk.conn;
  opened = c.in-Ok.ensures.opened;
  found = c.in-Ok.ensures.found;
  appended = c.in-Ok-append_on_disk.ensures;
})
