use Rattle.crashed_runs.proofs.SaveLemmas.{save_counts}
use Rattle.crashed_runs.proofs.laws.each_call_of_save_is_a_save.Goals as goal

pub returns : goal.returns
returns g c = λ first old new p q taken result watches counted saved leaves.
    save_counts g.F.DurableFile.model first old new p q taken result watches counted saved leaves
