-- The lock of the meter, and the file of its journal.
use Rattle.std.specs.Prelude.{⊤}
use Rattle.durable_lines.specs.Lines.{lines_in}
use Rattle.durable_lines.specs.MemoryFile.{bytes_of}
use Rattle.saving_tests.proofs.waiting.a_wait_returns_false_if_the_sync_fails.Given as goal

abbrev pub ghosts-waits_after : goal.ghosts-waits_after
ghosts-waits_after g a = record {
  lock = a.port.lock;
  file = 0;
  first = lines_in (bytes_of a.file);
  may_end = ⊤;
  may_fail = λ _. ⊤;
}
