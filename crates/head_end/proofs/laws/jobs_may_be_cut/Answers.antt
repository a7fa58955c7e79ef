use Rattle.head_end.proofs.LawLemmas.{jobs_join}
use Rattle.head_end.proofs.laws.jobs_may_be_cut.Goals as goal

pub returns : goal.returns
returns c = jobs_join
