use Rattle.std.proofs.Common.{◌∙◌}
use Rattle.durable_lines.proofs.PlaceLemmas.{append_left}
use Rattle.durable_lines.proofs.memory_place.MemoryPlaceDurableFile.append.Goals as goal

pub returns-clause-crash : goal.returns-clause-crash
returns-clause-crash c = append_left c.args.bytes.now _ _
    (c.in_ok-change.ensures.state ∙ c.in_ok-next.ensures)
