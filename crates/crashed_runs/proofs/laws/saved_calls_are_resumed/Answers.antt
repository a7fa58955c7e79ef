use Rattle.durable_lines.specs.Lines.{lines_in}
use Rattle.crashed_runs.proofs.SaveLemmas.{answered_continue, crash_leaves, saved_as}
use Rattle.crashed_runs.proofs.laws.saved_calls_are_resumed.Goals as goal

pub returns : goal.returns
returns g c = λ saves device began left trace answered old new after renews text journal told fit
    settled saved begins enough are crash resumed.
    let model = g.F.DurableFile.model in
    let leaves = crash_leaves model (lines_in began) saves old new left settled saved are crash in
    answered_continue old.count device began left trace answered old.calls new.calls after text
    journal told fit begins enough (
      leaves.0,
      (
        leaves.1.0,
        leaves.1.1,
        saved_as model renews (lines_in began) leaves.1.0 new.calls left leaves.1.2,
      ),
    )
    resumed
