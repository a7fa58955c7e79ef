use Rattle.std.proofs.Common.{rules, refl}
use Rattle.meter_fleet.proofs.Closing.{closes_next}
use Rattle.meter_fleet.proofs.idle.close_idle.Goals as goal

pub keys-preserved : goal.keys-preserved
keys-preserved g c = closes_next _ _ _ c.args.keys.now c.keys.key-index _ 0 (search rules) refl
    c.keys.invariant c.close_key.ensures
