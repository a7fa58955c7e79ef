use Rattle.std.proofs.Common.{◌∙◌}
use Rattle.durable_lines.specs.FileState.{IsLeft}
use Rattle.durable_lines.proofs.StateLemmas.{cut_left, cut_none, cut_seen, same_cuts}
use Rattle.durable_lines.proofs.memory_file.MemoryFileDurableFile.cut.Goals as goal

pub returns-then-self-clause-crash : goal.returns-then-self-clause-crash
returns-then-self-clause-crash c = same_cuts c.args.len _

pub returns-in_err-next-clause-crash : goal.returns-in_err-next-clause-crash
returns-in_err-next-clause-crash c = same_cuts c.args.len _

pub returns-in_err-replace-clause-crash : goal.returns-in_err-replace-clause-crash
returns-in_err-replace-clause-crash c =
    cut_none IsLeft c.args.len _ _ c.in_err-replace.ensures.unchanged

pub returns-clause-crash : goal.returns-clause-crash
returns-clause-crash c = cut_left c.args.len _ _
    (c.in_ok-replace.ensures.state ∙ c.in_ok-next.ensures.state)

pub returns-clause-cut : goal.returns-clause-cut
returns-clause-cut c acts = cut_seen c.args.len _ _
    (c.in_ok-replace.ensures.state ∙ c.in_ok-next.ensures.state) c.in_ok-next.ensures.within
