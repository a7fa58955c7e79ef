-- Both directions.
use Rattle.limiter_core.proofs.Meaning.{fired_at_some, some_fired}
use Rattle.limiter_core.proofs.laws.fired_means.Goals as goal

pub returns : goal.returns
returns c = λ side rows. (
  fired_at_some side rows,
  λ some. some_fired side rows some.0 some.1 some.2,
)
