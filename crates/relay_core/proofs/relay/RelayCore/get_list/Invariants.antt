use Rattle.std.proofs.Common.{◌≡◌, take}
use Rattle.relay_core.specs.World.{World}
use Rattle.relay_core.specs.Stands.{StandsFor}
use Rattle.relay_core.specs.Reading.{get_results}
use Rattle.relay_core.proofs.relay.RelayCore.get_list.Given as goal

abbrev pub invariant-loop-item : goal.invariant-loop-item
invariant-loop-item l = (w : World) → StandsFor l.self w → l.results
    ≡ get_results l.level (take l.item-index l.items) w
