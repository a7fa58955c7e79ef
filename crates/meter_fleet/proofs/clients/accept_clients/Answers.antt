use Rattle.meter_fleet.proofs.Meeting.{met_on}
use Rattle.meter_fleet.proofs.clients.accept_clients.Goals as goal

pub clients-preserved : goal.clients-preserved
clients-preserved g c = met_on _ _ _ _ _ _ _ c.clients.invariant c.if-not-accept_client.ensures
