-- The lock of the run and its file. The run may stop its journal at any time, and nothing is
-- claimed of why it ended.
use Rattle.std.specs.Prelude.{⊤}
use Rattle.durable_lines.specs.Lines.{lines_in}
use Rattle.meter_run.proofs.journaled.run_journaled.Given as goal

abbrev pub ghosts-run_in_lock : goal.ghosts-run_in_lock
ghosts-run_in_lock g a =
    let model = g.F.DurableFile.model in
    record {
      lock = a.meter.1.lock;
      file = model.identity a.journal.parts.file;
      first = lines_in (model.seen a.journal.parts.file);
      may_end = ⊤;
      may_fail = λ fault. ⊤;
    }
