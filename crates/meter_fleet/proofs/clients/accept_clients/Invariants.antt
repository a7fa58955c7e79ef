-- This number of clients was met so far.
use Rattle.meter_fleet.proofs.Meeting.{MetSome}
use Rattle.meter_fleet.proofs.clients.accept_clients.Given as goal

abbrev pub invariant-clients : goal.invariant-clients
invariant-clients g l = MetSome (g.N.Network.log l.initial.network) l.initial.fleet l.counter
    (g.N.Network.log l.network) l.fleet
