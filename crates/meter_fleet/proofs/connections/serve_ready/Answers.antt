use Rattle.std.proofs.Common.{rules, refl, ◌∙◌}
use Rattle.meter_fleet.proofs.ServedKeys.{serves_next, stops_next}
use Rattle.meter_fleet.proofs.connections.serve_ready.Goals as goal

pub returns-in-Err : goal.returns-in-Err
returns-in-Err g c = stops_next _ _ _ c.args.ready.now _ _ _ c.keys.key-index _ 0 c.in-Err.fault
    (search rules) refl c.keys.invariant.serves c.in-Err.ensures

pub keys-preserved : goal.keys-preserved
keys-preserved g c = record {
  input = c.serve_key.auto.input ∙ c.keys.invariant.input;
  frame = c.serve_key.auto.frame ∙ c.keys.invariant.frame;
  serves = serves_next _ _ _ c.args.ready.now _ _ _ c.keys.key-index _ 0 (search rules) refl
      c.keys.invariant.serves c.in-Ok.ensures;
}
