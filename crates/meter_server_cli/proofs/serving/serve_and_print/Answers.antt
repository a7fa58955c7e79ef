use Rattle.meter_server_cli.proofs.Printing.{trace_printed}
use Rattle.meter_server_cli.proofs.serving.serve_and_print.Goals as goal

pub returns : goal.returns
returns g c = record {
  printed = trace_printed _ _ _ _ _ c.run_fault.result _ _ _ c.run_fault.ensures.has_ended
      c.run_with_outputs-served.ensures.limited c.run_with_outputs-served.ensures.printed;
}
