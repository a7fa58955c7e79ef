use Rattle.run_tests.proofs.RunLemmas.{listed_if}
use Rattle.run_tests.proofs.runs.run_lists.Goals as goal

pub returns-clause-run : goal.returns-clause-run
returns-clause-run g c =
    let run = c.run_meter.result in
    listed_if _ _ _ _ c.args.recorder
    (record {
      blocks = c.args.lists.blocks.left.items;
      moments = c.args.lists.moments.left.items;
      presses = c.args.lists.buttons.left;
      password = c.args.password.now;
    })
    run.served run.journal run.parts run.trace c.run_meter.ensures.runs.run
