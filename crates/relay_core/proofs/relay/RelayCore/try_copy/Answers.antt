use Rattle.relay_core.proofs.CopyLemmas.{copied}
use Rattle.relay_core.proofs.relay.RelayCore.try_copy.Goals as goal

pub returns : goal.returns
returns c = copied c.args.self.now _ _ _ _ _ _ _
    c.in_ok-lists.ensures.device c.in_ok-import.ensures.import c.in_ok-import.ensures.export
    c.in_ok-lists.ensures.scripts c.in_ok-lists.ensures.schedules
