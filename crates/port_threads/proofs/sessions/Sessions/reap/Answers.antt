use Rattle.std.proofs.Common.{◌∙◌, [], arith}
use Rattle.port_threads.specs.Sessions.{port_of, terms_of}
use Rattle.port_threads.proofs.PortsKept.{keeps_trans}
use Rattle.port_threads.proofs.sessions.Sessions.reap.Goals as goal

pub places-preserved : goal.places-preserved
places-preserved g c =
    record {
      keeps_ports = λ t. keeps_trans port_of (terms_of g.C.PortConnection.terms)
          g.C.PortConnection.hands_back t _
          _ _ _ _ _ (c.places.invariant.keeps_ports t) (c.reap_one.ensures.keeps_ports t);
      count = omega (arith, c.reap_one.ensures.count, c.places.invariant.count);
      splits = c.reap_one.ensures.splits ∙ c.places.invariant.splits;
    }

pub reap_one-requires-clause-held : goal.reap_one-requires-clause-held
reap_one-requires-clause-held g c κs within = (c.places.invariant.keeps_ports []).holds
    c.requires.held
