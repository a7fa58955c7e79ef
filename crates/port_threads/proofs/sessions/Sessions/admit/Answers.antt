use Rattle.std.proofs.Common.{refl, sym, ◌∙◌, ap, arith}
use Rattle.port_threads.specs.Sessions.{port_of, terms_of}
use Rattle.port_threads.proofs.PortsKept.{returned_same, keeps_open, keeps_back, keeps_same}
use Rattle.port_threads.proofs.sessions.Sessions.admit.Goals as goal

pub returns-in_default-clause-keeps_ports : goal.returns-in_default-clause-keeps_ports
returns-in_default-clause-keeps_ports g c =
    let conn = g.C.PortConnection in
    let split = c.in_default.ensures in
    keeps_same port_of (terms_of conn.terms) conn.hands_back _ _ _ _ _ split.lock.0 split.lock.1
    split.err refl

pub returns-in-Ok-start-clause-keeps_ports : goal.returns-in-Ok-start-clause-keeps_ports
returns-in-Ok-start-clause-keeps_ports g c =
    let conn = g.C.PortConnection in
    let split = c.in-Ok.ensures in
    let begun = c.in-Ok-start.ensures in
    let put = c.insert_reserved.ensures in
    keeps_open port_of (terms_of conn.terms) conn.hands_back _ c.args.port.now c.split.new.self
    c.args.self.now.handles c.insert_reserved.new.self c.insert_reserved.result
    c.in-Ok-start.session c.in-Ok.own
    split.lock.0 split.lock.1 split.parent begun.ok split.child.0 split.child.2 split.child.3
    (ap conn.terms begun.connection) put.was_vacant
    (omega (arith, put.key, c.vacant_key-key.ensures.value)) put.updates put.capacity

pub returns-in-Err-clause-keeps_ports : goal.returns-in-Err-clause-keeps_ports
returns-in-Err-clause-keeps_ports g c =
    let conn = g.C.PortConnection in
    let split = c.in-Ok.ensures in
    let joined = c.take_back.ensures in
    let same = returned_same _ _ _ (c.requires.hands_back _) c.in-Err.ensures.err in
    keeps_back port_of (terms_of conn.terms) conn.hands_back _ g.T.Turned.legal _ c.split.new.self _
    c.in-Ok.own c.in-Err.own _ split.lock.0 split.lock.1 split.parent split.child.2 split.child.3
    c.in-Err.ensures.err same joined.lock.0 joined.lock.1 joined.joins

pub take_back-requires : goal.take_back-requires
take_back-requires g c =
    let same = returned_same _ _ _ (c.requires.hands_back _) c.in-Err.ensures.err in
    same.lock ∙ c.in-Ok.ensures.child.0 ∙ sym c.in-Ok.ensures.lock.0
