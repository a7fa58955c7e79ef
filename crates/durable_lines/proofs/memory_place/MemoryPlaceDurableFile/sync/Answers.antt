use Rattle.std.proofs.Common.{◌∙◌, ap}
use Rattle.durable_lines.specs.FileState.{synced_with}
use Rattle.durable_lines.proofs.PlaceLemmas.{settled, sync_left, synced_left}
use Rattle.durable_lines.proofs.memory_place.MemoryPlaceDurableFile.sync.Goals as goal

pub returns-clause-durable : goal.returns-clause-durable
returns-clause-durable c = synced_left _ _ (c.in_ok-change.ensures.state
    ∙ ap settled (c.synced_with.ensures ∙ ap synced_with c.in_ok-bytes.ensures))

pub returns-clause-crash : goal.returns-clause-crash
returns-clause-crash c = sync_left _ _ (c.in_ok-change.ensures.state
    ∙ ap settled (c.synced_with.ensures ∙ ap synced_with c.in_ok-bytes.ensures))
