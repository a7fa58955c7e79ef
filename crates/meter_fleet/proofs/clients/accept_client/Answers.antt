use Rattle.meter_fleet.proofs.Meeting.{meets_client}
use Rattle.meter_fleet.proofs.clients.accept_client.Goals as goal

pub returns-in-Client : goal.returns-in-Client
returns-in-Client g c = meets_client _ _ _ _ _ _ _ _ c.next_key.ensures c.in-Client.ensures
    c.admit.ensures
