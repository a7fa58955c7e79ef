use Rattle.std.proofs.Common.{rules}
use Rattle.fleet_meters.proofs.Seats.{close_frees}
use Rattle.fleet_meters.proofs.place.MeterPlace.close.Goals as goal

pub returns : goal.returns
returns c = close_frees _ _ _ _ c.close_session-closed.result (search rules) c.requires
    c.close_session-closed.ensures
