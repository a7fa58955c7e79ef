use Rattle.meter_fleet.proofs.Closing.{closes_one}
use Rattle.meter_fleet.proofs.idle.close_key.Goals as goal

pub returns : goal.returns
returns g c = closes_one g.S.Stream.state _ _ _ c.close-stream.result
    c.close-stream.ensures.closed c.close-stream.ensures.absent
