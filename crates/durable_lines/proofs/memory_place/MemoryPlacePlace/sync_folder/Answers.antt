use Rattle.std.proofs.Common.{◌∙◌, ap}
use Rattle.durable_lines.proofs.PlaceLemmas.{folder_left, folder_narrows, settled}
use Rattle.durable_lines.proofs.memory_place.MemoryPlacePlace.sync_folder.Goals as goal

pub returns-clause-durable : goal.returns-clause-durable
returns-clause-durable c = folder_left c.args.self.now.state _
    (c.in_ok-change.ensures.state ∙ ap settled c.in_ok-copy.ensures)

pub returns-clause-crash : goal.returns-clause-crash
returns-clause-crash c = folder_narrows c.args.self.now.state _
    (c.in_ok-change.ensures.state ∙ ap settled c.in_ok-copy.ensures)
