use Rattle.std.proofs.Common.{[], ◌∙◌}
use Rattle.port_threads.specs.Sessions.{port_of, terms_of}
use Rattle.port_threads.proofs.PortsKept.{keeps_trans}
use Rattle.port_threads.proofs.serving.take_next.Goals as goal

pub returns-in-Ok-clause-keeps_ports : goal.returns-in-Ok-clause-keeps_ports
returns-in-Ok-clause-keeps_ports g c =
    let conn = g.L.Connection.PortConnection in
    keeps_trans port_of (terms_of conn.terms) conn.hands_back _ _ _ _ _ _ _
    (c.reap.ensures.keeps_ports _)
    (c.take_in.ensures.keeps_ports _ c.in-Ok.ensures.served)

pub returns-in-Err-clause-keeps_ports : goal.returns-in-Err-clause-keeps_ports
returns-in-Err-clause-keeps_ports g c = c.reap.ensures.keeps_ports _

pub take_in-requires-clause-held : goal.take_in-requires-clause-held
take_in-requires-clause-held g c κs within = (c.reap.ensures.keeps_ports []).holds c.requires.held

pub take_in-requires-clause-fits : goal.take_in-requires-clause-fits
take_in-requires-clause-fits g c κs within = λ p same.
    c.requires.fits p (same ∙ (c.reap.ensures.keeps_ports []).goes.lock)
