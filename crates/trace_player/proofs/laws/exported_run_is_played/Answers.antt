use Rattle.trace_player.proofs.ExportedRuns.{prints_the_end}
use Rattle.trace_player.proofs.laws.exported_run_is_played.Goals as goal

pub returns : goal.returns
returns c = prints_the_end
