use Rattle.std.proofs.Common.{◌≡◌, ℕ, ◌<◌, ◌≤◌, List, None}
use Rattle.slab.specs.Slab.{get, slab_len}
use Rattle.port_threads.specs.Sessions.{port_of, terms_of, KeepsPorts}
use Rattle.port_threads.proofs.sessions.Sessions.close_all.Given as goal

abbrev pub invariant-last : goal.invariant-last
invariant-last g l = record {
  keeps_ports : (t : List ℕ) → KeepsPorts port_of (terms_of g.C.PortConnection.terms)
      g.C.PortConnection.hands_back t
      l.initial.port l.initial.self.handles l.port l.self.handles;
  count : slab_len l.self.handles ≤ slab_len l.initial.self.handles;
  splits : l.port.known.splits ≡ l.initial.port.known.splits;
  closed : (key : ℕ) → key < l.key → get l.self.handles key ≡ None;
}
