use Rattle.relay_core.proofs.OpeningLemmas.{opening_stands}
use Rattle.relay_core.proofs.relay.RelayCore.stands_for_its_opening.Goals as goal

pub returns : goal.returns
returns c = opening_stands c.args.self.now c.over_run-import.ensures.limiter.counts
    c.over_run-export.ensures.limiter.counts
