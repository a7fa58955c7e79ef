use Rattle.meter_server.specs.Ports.{PortSteps}
use Rattle.meter_server.proofs.PortLemmas.{entered, port_steps}
use Rattle.meter_server.proofs.ports.calls_are_entered.Goals as goal

pub returns : goal.returns
returns c = entered PortSteps port_steps
