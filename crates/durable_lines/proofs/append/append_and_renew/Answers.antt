use Rattle.std.proofs.Common.{◌++◌}
use Rattle.std.proofs.lemmas.Result.{on_ok_weaker}
use Rattle.durable_lines.specs.Lines.{lines_in}
use Rattle.durable_lines.proofs.HoldingLemmas.{front_leaves, holds_more, holds_renewed}
use Rattle.durable_lines.proofs.HoldingLemmas.{renewed_leaves}
use Rattle.durable_lines.proofs.append.append_and_renew.Goals as goal

pub returns-in_err-append_lines-clause-any_moment
    : goal.returns-in_err-append_lines-clause-any_moment
returns-in_err-append_lines-clause-any_moment g c acts first lines held =
    let model = g.F.DurableFile.model in
    front_leaves model.renews model _ _ first lines (lines_in c.args.text.now) held
    (c.append_lines.ensures.any_moment acts)

pub returns-clause-any_moment : goal.returns-clause-any_moment
returns-clause-any_moment g c acts first lines held =
    let model = g.F.DurableFile.model in
    renewed_leaves model.renews model _ _ _ first lines (lines_in c.args.text.now) held
    (c.append_lines.ensures.any_moment acts) (c.in_ok-append_lines.ensures.lines acts)
    (c.renew.ensures.any_moment acts)

pub returns-clause-lines : goal.returns-clause-lines
returns-clause-lines g c =
    let renews = g.F.DurableFile.model.renews in
    let more = lines_in c.args.text.now in
    on_ok_weaker c.renew.result
    (λ renewed acts first lines held. holds_renewed renews first (lines ++ more) _ _ (renewed acts)
    (holds_more renews first lines more _ _ (c.in_ok-append_lines.ensures.lines acts) held))
    c.renew.ensures.renewed
