use Rattle.std.proofs.Common.{refl}
use Rattle.ledger_files.proofs.asking.ask_with_ledger.Goals as goal

pub returns-in-Ok : goal.returns-in-Ok
returns-in-Ok g c = record {
  asked_at = c.second_now.result;
  meters = c.in-Ok.asked;
  were = c.in-Ok.ensures;
  text_is = refl;
  recorded = rw c.as_slice.ensures.value at c.append_answers-recorded.ensures;
}
