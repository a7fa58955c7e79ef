use Rattle.head_end.proofs.RoundLemmas.{in_order}
use Rattle.head_end.proofs.rounds.jobs_of_a_meter_run_in_order.Goals as goal

pub returns : goal.returns
returns c = in_order
