-- The lock of the meter, and the file of its journal.
use Rattle.std.specs.Prelude.{⊤}
use Rattle.durable_lines.specs.Lines.{lines_in}
use Rattle.durable_lines.specs.MemoryFile.{bytes_of}
use Rattle.saving_tests.proofs.settling.settle_asked.Given as goal

abbrev pub ghosts-settle_port : goal.ghosts-settle_port
ghosts-settle_port g a = record {
  lock = a.port.lock;
  file = 0;
  first = lines_in (bytes_of a.file);
  may_end = ⊤;
  may_fail = λ _. ⊤;
}
