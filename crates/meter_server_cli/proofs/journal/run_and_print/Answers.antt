use Rattle.meter_run.specs.Journaled.{parts_in}
use Rattle.meter_server_cli.proofs.Printing.{run_printed}
use Rattle.meter_server_cli.proofs.journal.run_and_print.Goals as goal

pub returns-clause-printed : goal.returns-clause-printed
returns-clause-printed g c =
    run_printed g.F.DurableFile.model g.O.Write.contents _ _ (parts_in c.args.journal)
    c.args.meter.recorder _ _ c.run_meter-served.result c.print_trace.result _ _
    c.run_meter-served.ensures.runs c.print_trace.ensures
