use Rattle.std.proofs.Common.{◌∙◌}
use Rattle.durable_lines.specs.MemoryPlace.{MayBeLeft}
use Rattle.durable_lines.proofs.PlaceLemmas.{cut_left, cut_seen}
use Rattle.durable_lines.proofs.StateLemmas.{cut_none, same_cuts}
use Rattle.durable_lines.proofs.memory_place.MemoryPlaceDurableFile.cut.Goals as goal

pub returns-in_err-next-clause-crash : goal.returns-in_err-next-clause-crash
returns-in_err-next-clause-crash c = same_cuts c.args.len _

pub returns-in_err-change-clause-crash : goal.returns-in_err-change-clause-crash
returns-in_err-change-clause-crash c =
    cut_none MayBeLeft c.args.len _ _ c.in_err-change.ensures.unchanged

pub returns-clause-crash : goal.returns-clause-crash
returns-clause-crash c = cut_left c.args.len _ _
    (c.in_ok-change.ensures.state ∙ c.in_ok-next.ensures.state)

pub returns-clause-cut : goal.returns-clause-cut
returns-clause-cut c acts = cut_seen c.args.len _ _
    (c.in_ok-change.ensures.state ∙ c.in_ok-next.ensures.state) c.in_ok-next.ensures.within
