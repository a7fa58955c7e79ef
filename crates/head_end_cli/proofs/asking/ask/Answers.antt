use Rattle.head_end_cli.proofs.Entered.{on_ok, of_ok}
use Rattle.head_end_cli.proofs.asking.ask.Goals as goal

pub returns-in-Ok : goal.returns-in-Ok
returns-in-Ok g c = on_ok c.print_answers.result (λ ok done. record {
  asked_at = c.in-Ok.ensures.asked_at;
  asked = c.in-Ok.ensures.meters;
  were = rw c.as_slice.ensures at c.in-Ok.ensures.were;
  recorded = of_ok c.in-Ok.asked.recorded done.recorded c.in-Ok.ensures.recorded;
  printed = rw c.in-Ok.ensures.text_is at done.printed;
}) c.print_answers.ensures
