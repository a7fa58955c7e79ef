use Rattle.std.proofs.Common.{subst, List}
use Rattle.sqlite.specs.WalFiles.{image_at}
use Rattle.client_core.specs.declared.job.Job.{Job}
use Rattle.ledger_files.specs.Opened.{IsLedgerFrom}
use Rattle.ledger_files.proofs.runs.run_with_ledger.Goals as goal

pub returns-in-Ok-run_on_disk : goal.returns-in-Ok-run_on_disk
returns-in-Ok-run_on_disk g c =
    let start = c.in-Ok.ledger in
    record {
      start = start;
      now = c.in-Ok-run_on_disk.ledger;
      schema_is = c.in-Ok.ensures.schema;
      end_is = c.close.ensures;
      opened = λ clean. subst (λ (jobs : List Job).
          IsLedgerFrom (image_at g.S.Start) start.book jobs start.entries)
          c.as_slice.ensures.jobs (c.in-Ok.ensures.found clean);
      run = c.in-Ok-run_on_disk.ensures;
    }
