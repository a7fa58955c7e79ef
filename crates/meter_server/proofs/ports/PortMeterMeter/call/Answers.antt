use Rattle.meter_server.proofs.PortLemmas.{port_fits}
use Rattle.meter_server.proofs.ports.PortMeterMeter.call.Goals as goal

pub returns-clause-fits : goal.returns-clause-fits
returns-clause-fits g c = port_fits _ c.args.event c.call.result _ c.call.ensures.ok
