use Rattle.port_threads.specs.Sessions.{port_of, terms_of}
use Rattle.port_threads.proofs.PortsKept.{keeps_trans, joined_all, served_all}
use Rattle.port_threads.proofs.serving.serve_connections.Goals as goal

pub returns-clause-port_continues : goal.returns-clause-port_continues
returns-clause-port_continues g c =
    let conn = g.L.Connection.PortConnection in
    (keeps_trans port_of (terms_of conn.terms) conn.hands_back _ _ _ _ _ _ _
    c.accept_all-accepted.ensures.keeps_ports (c.close_all.ensures.keeps_ports _)).goes

pub returns-clause-joined : goal.returns-clause-joined
returns-clause-joined g c =
    let conn = g.L.Connection.PortConnection in
    joined_all port_of (terms_of conn.terms) conn.hands_back _ _ _ _ _
    c.in_ok-sessions.ensures (keeps_trans port_of (terms_of conn.terms) conn.hands_back _ _ _ _
    _ _ _ c.accept_all-accepted.ensures.keeps_ports (c.close_all.ensures.keeps_ports _))
    c.close_all.ensures.closed

pub returns-clause-sessions : goal.returns-clause-sessions
returns-clause-sessions g c =
    let conn = g.L.Connection.PortConnection in
    served_all port_of (terms_of conn.terms) conn.hands_back _ _ _ _ _
    c.in_ok-sessions.ensures (keeps_trans port_of (terms_of conn.terms) conn.hands_back _ _ _ _
    _ _ _ c.accept_all-accepted.ensures.keeps_ports (c.close_all.ensures.keeps_ports _))
    c.close_all.ensures.closed
