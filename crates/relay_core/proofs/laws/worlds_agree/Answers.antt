use Rattle.relay_core.proofs.AgreeingEvents.{event_alike}
use Rattle.relay_core.proofs.laws.worlds_agree.Goals as goal

pub returns : goal.returns
returns c = event_alike
