use Rattle.std.proofs.Common.{◌∙◌, [], arith}
use borrow.Author.Count.{below_more}
use Rattle.port_threads.specs.Sessions.{port_of, terms_of}
use Rattle.port_threads.proofs.PortsKept.{keeps_trans}
use Rattle.port_threads.proofs.sessions.Sessions.close_all.Goals as goal

pub last-preserved : goal.last-preserved
last-preserved g c =
    record {
      keeps_ports = λ t. keeps_trans port_of (terms_of g.C.PortConnection.terms)
          g.C.PortConnection.hands_back t _
          _ _ _ _ _ (c.last.invariant.keeps_ports t) (c.close.ensures.keeps_ports t);
      count = omega (arith, c.close.ensures.count, c.last.invariant.count);
      splits = c.close.ensures.splits ∙ c.last.invariant.splits;
      closed = below_more _ _ (λ key below. c.close.ensures.others key
          (c.last.invariant.closed key below)) c.close.ensures.closed;
    }

pub close-requires-clause-held : goal.close-requires-clause-held
close-requires-clause-held g c κs within = (c.last.invariant.keeps_ports []).holds c.requires.held
