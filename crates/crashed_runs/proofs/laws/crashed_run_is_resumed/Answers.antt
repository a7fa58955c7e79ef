use Rattle.crashed_runs.proofs.FrontLemmas.{front_continues}
use Rattle.crashed_runs.proofs.laws.crashed_run_is_resumed.Goals as goal

pub returns : goal.returns
returns c = front_continues
