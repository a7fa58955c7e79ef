use Rattle.durable_lines.specs.Lines.{lines_in}
use Rattle.crashed_runs.proofs.AnswerLemmas.{answers_continue}
use Rattle.crashed_runs.proofs.SaveLemmas.{saved_as}
use Rattle.crashed_runs.proofs.laws.answered_calls_are_resumed.Goals as goal

pub returns : goal.returns
returns g c = λ parts ended recorder password sources served journal text renews run sessions acts
    left crash has device trace after whole journal_is told fit resumed.
    let model = g.F.DurableFile.model in
    let saved = (run.leaves.kept acts).any_moment.each left crash in
    answers_continue _ run.run.of_run.ports device (model.seen parts.file) left trace
    run.run.calls after sessions whole journal_is told fit (
      saved.0,
      saved.1,
      saved_as model renews (lines_in (model.seen parts.file)) saved.0
          run.run.calls left saved.2,
    ) has resumed
