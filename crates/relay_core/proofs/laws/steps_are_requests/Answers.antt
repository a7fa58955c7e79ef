use Rattle.relay_core.proofs.RequestLemmas.{step_is_request}
use Rattle.relay_core.proofs.laws.steps_are_requests.Goals as goal

pub returns : goal.returns
returns c = step_is_request
