use Rattle.std.proofs.Common.{◌≡◌, ◌+◌, ◌<◌, ◌≤◌, false}
use Rattle.port_threads.specs.Sessions.{port_of, terms_of, KeepsPorts, IsServed}
use Rattle.port_threads.specs.Listening.{IsCounted}
use Rattle.port_threads.proofs.Counting.{AreFew}
use Rattle.slab.specs.Slab.{slab_len}
use Rattle.port_threads.proofs.serving.accept_all.Given as goal

abbrev pub invariant-connections : goal.invariant-connections
invariant-connections g l = record {
  can_next : (goal.iterator-connections g).can_next l.iterator';
  is_finite : (goal.iterator-connections g).is_finite l.iterator';
  keeps_ports : KeepsPorts port_of (terms_of g.L.Connection.PortConnection.terms)
      g.L.Connection.PortConnection.hands_back (g.L.ConnectionSource.terms l.initial.listener)
      l.initial.port
      l.initial.sessions.handles l.port l.sessions.handles;
  served : IsServed l.initial.port.known.splits l.port.known.splits l.accepted;
  going : l.accepted.has_failed ≡ false;
  terms : g.L.ConnectionSource.terms l.listener ≡ g.L.ConnectionSource.terms l.initial.listener;
  borrowed : g.L.ConnectionSource.borrowed l.listener
      ≡ g.L.ConnectionSource.borrowed l.initial.listener;
  counted : IsCounted (g.L.ConnectionSource.accepted l.initial.listener) (l.accepted.served
      + l.accepted.turned_away) (g.L.ConnectionSource.accepted l.listener);
  few : AreFew (slab_len l.sessions.handles)
      (g.L.ConnectionSource.setup_failures l.initial.listener) l.accepted
      (g.L.ConnectionSource.setup_failures l.listener);
  within : 0 < l.limit → l.accepted.served + l.accepted.turned_away ≤ l.limit;
}
