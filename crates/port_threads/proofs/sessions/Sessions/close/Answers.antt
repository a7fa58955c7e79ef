use Rattle.std.proofs.Common.{refl, sym, ◌∙◌}
use Rattle.port_threads.specs.Sessions.{port_of, terms_of}
use Rattle.port_threads.proofs.PortsKept.{returned_same, keeps_close, keeps_same}
use Rattle.port_threads.proofs.sessions.Sessions.close.Goals as goal

pub returns-in-Some-clause-keeps_ports : goal.returns-in-Some-clause-keeps_ports
returns-in-Some-clause-keeps_ports g c = λ t.
    let conn = g.C.PortConnection in
    let same = returned_same _ _ _ (c.requires.hands_back _) c.join-own.ensures in
    keeps_close port_of (terms_of conn.terms) conn.hands_back t g.T.Turned.legal _ _ _ _ _
    c.in-Some.session c.join-own.result (sym c.try_remove.ensures.value
    ∙ c.in-Some.is) c.try_remove.ensures.updates c.try_remove.ensures.capacity
    c.join-own.ensures same c.join.ensures.lock.0 c.join.ensures.lock.1 c.join.ensures.joins

pub returns-in_default-clause-keeps_ports : goal.returns-in_default-clause-keeps_ports
returns-in_default-clause-keeps_ports g c = λ t. let conn = g.C.PortConnection in keeps_same port_of
    (terms_of conn.terms) conn.hands_back t _ _ _ _ refl refl refl c.in_default.ensures.absent
