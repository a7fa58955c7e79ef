use Rattle.std.proofs.Common.{◌∙◌, ap}
use Rattle.durable_lines.proofs.PlaceLemmas.{named_left, rename_left, renamed}
use Rattle.durable_lines.proofs.memory_place.MemoryPlacePlace.rename.Goals as goal

pub returns-clause-renamed : goal.returns-clause-renamed
returns-clause-renamed c = named_left c.args.self.now.state _ _ (c.in_ok-change.ensures.state
    ∙ c.in_ok-next.ensures ∙ ap (renamed c.args.self.now.state) c.state.ensures)

pub returns-clause-crash : goal.returns-clause-crash
returns-clause-crash c = rename_left c.args.self.now.state _ _ (c.in_ok-change.ensures.state
    ∙ c.in_ok-next.ensures ∙ ap (renamed c.args.self.now.state) c.state.ensures)
