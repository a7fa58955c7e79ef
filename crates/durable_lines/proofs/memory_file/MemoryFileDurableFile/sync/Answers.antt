use Rattle.std.proofs.Common.{◌∙◌, ap}
use Rattle.durable_lines.specs.FileState.{synced_with}
use Rattle.durable_lines.proofs.StateLemmas.{sync_left, synced_left}
use Rattle.durable_lines.proofs.memory_file.MemoryFileDurableFile.sync.Goals as goal

pub returns-clause-durable : goal.returns-clause-durable
returns-clause-durable c = synced_left _ _ (c.in_ok-replace.ensures.state
    ∙ c.synced_with-next.ensures ∙ ap synced_with c.in_ok-bytes.ensures)

pub returns-clause-crash : goal.returns-clause-crash
returns-clause-crash c = sync_left _ _ (c.in_ok-replace.ensures.state
    ∙ c.synced_with-next.ensures ∙ ap synced_with c.in_ok-bytes.ensures)
