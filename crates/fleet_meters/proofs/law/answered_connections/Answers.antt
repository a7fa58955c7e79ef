use Rattle.fleet_meters.proofs.Served.{have_frames, have_answers}
use Rattle.fleet_meters.proofs.law.answered_connections.Goals as goal

pub returns-clause-frames : goal.returns-clause-frames
returns-clause-frames c = have_frames

pub returns-clause-answers : goal.returns-clause-answers
returns-clause-answers c = have_answers
