-- Some rounds were done, and the buffers are as before.
use Rattle.std.proofs.Common.{◌≡◌, [], length}
use Rattle.meter_fleet.specs.Rounds.{start_of, frame_bytes}
use Rattle.meter_fleet.proofs.Rounding.{DoneRounds}
use Rattle.meter_fleet.proofs.serving.serve.Given as goal

abbrev pub invariant-rounds : goal.invariant-rounds
invariant-rounds g l = record {
  empty : l.rounds.next.items ≡ [];
  room : length l.rounds.frame.items ≡ frame_bytes;
  done : DoneRounds (start_of (g.N.Network.log l.initial.network) l.initial.fleet)
      (record {
        log = g.N.Network.log l.network;
        fleet = l.fleet;
        ready = l.rounds.ready.items;
        has_clients = l.rounds.has_clients;
      });
}
