use Rattle.std.proofs.Common.{inr, ap, ◌∙◌}
use Rattle.durable_lines.specs.FileState.{seen_of}
use Rattle.durable_lines.proofs.RawLemmas.{cut_leaves}
use Rattle.durable_lines.proofs.StateLemmas.{seen_of-after_cut}
use Rattle.durable_lines.proofs.raw_calls.cut_to.Goals as goal

pub returns-in-Ok-clause-cut : goal.returns-in-Ok-clause-cut
returns-in-Ok-clause-cut g c acts le =
    let model = g.R.RawFile.model in
    ap seen_of (c.in-Ok.ensures.cut acts le)
    ∙ seen_of-after_cut c.args.len (model.state c.args.raw.now) (model.is_within c.args.raw.now)

pub returns-in-Ok-clause-crash : goal.returns-in-Ok-clause-crash
returns-in-Ok-clause-crash g c le =
    cut_leaves _ c.args.len _ _ (λ acts. inr (c.in-Ok.ensures.cut acts (le acts)))

pub returns-in-Err-clause-crash : goal.returns-in-Err-clause-crash
returns-in-Err-clause-crash g c le =
    cut_leaves _ c.args.len _ _ (λ acts. c.in-Err.ensures.refused acts (le acts))
