use Rattle.turn_lock.specs.Shown.{IsSame}
use Rattle.meter_server.specs.Ports.{PortSteps}
use Rattle.meter_server.specs.Sessions.{AsksThrough}
use Rattle.meter_server.proofs.PortLemmas.{between, port_steps, served_same}
use Rattle.meter_server.proofs.SessionLemmas.{served_asks}
use Rattle.meter_server.proofs.ports.serve_port.Goals as goal

pub returns-clause-same : goal.returns-clause-same
returns-clause-same g c =
    between IsSame _ _ _ _ c.new-meter.ensures c.into_port.ensures
    (served_same PortSteps port_steps _ _ _ _ c.serve_session-result.ensures)

pub returns-clause-asks : goal.returns-clause-asks
returns-clause-asks g c =
    between (AsksThrough c.args.password.now) _ _ _ _ c.new-meter.ensures c.into_port.ensures
    (served_asks PortSteps port_steps _ _ _ _ c.serve_session-result.ensures)
