use Rattle.trace_openings.proofs.OpeningIsRows.{opening_are_rows}
use Rattle.trace_openings.proofs.OpeningLaws.{opening_again}
use Rattle.trace_openings.proofs.laws.written_opening_is_read.Goals as goal

pub returns : goal.returns
returns c = record { read_back = opening_again c.fit_runs_mean.ensures; rows = opening_are_rows }
