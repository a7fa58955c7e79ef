use Rattle.head_end_cli.proofs.Entered.{on_ok}
use Rattle.head_end_cli.proofs.ledgered.run_on_ledger.Goals as goal

pub returns-in-Ok : goal.returns-in-Ok
returns-in-Ok g c = on_ok c.print_report.result (λ ok printed. record {
  texts = c.in-Ok.report.texts;
  ran = rw (c.as_slice.ensures, c.print_report.ensures.closed ok) at c.in-Ok.ensures;
  printed = printed;
}) c.print_report.ensures.printed
