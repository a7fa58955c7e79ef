use Rattle.meter_server.specs.Ports.{PortSteps}
use Rattle.meter_server.proofs.PortLemmas.{port_steps, served_same}
use Rattle.meter_server.proofs.SessionLemmas.{served_asks}
use Rattle.meter_server.proofs.ports.session_keeps_its_port.Goals as goal

pub returns : goal.returns
returns g c = λ password reader writer p end read written q served. (
  served_same PortSteps port_steps _ _ _ _ served,
  served_asks PortSteps port_steps _ _ _ _ served,
)
