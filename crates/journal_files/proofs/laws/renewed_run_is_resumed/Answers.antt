use Rattle.journal_files.proofs.RunLemmas.{run_told}
use Rattle.journal_files.proofs.laws.renewed_run_is_resumed.Goals as goal

pub returns : goal.returns
returns c = run_told
