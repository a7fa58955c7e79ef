use Rattle.meter_fleet.proofs.Rounding.{done_on, until, no_buffers}
use Rattle.meter_fleet.proofs.serving.serve.Goals as goal

pub returns-in-Err-run : goal.returns-in-Err-run
returns-in-Err-run g c = until _ _ _ _ _ _ c.rounds.invariant.done c.in-Err-run.ensures.round

pub returns : goal.returns
returns g c = no_buffers _ _

pub rounds-preserved : goal.rounds-preserved
rounds-preserved g c = record {
  empty = c.in-Ok-run.ensures.empty;
  room = c.in-Ok-run.ensures.room;
  done = done_on _ _ _ c.rounds.invariant.done c.in-Ok-run.ensures.round;
}
