use Rattle.std.proofs.Common.{sym, ◌∙◌, ap, subst}
use Rattle.std.proofs.lemmas.Result.{on_ok_weaker}
use Rattle.durable_lines.specs.Lines.{lines_in, IsText}
use Rattle.durable_lines.proofs.AppendLemmas.{after_append, after_sync}
use Rattle.durable_lines.proofs.LineLemmas.{lines_in-append, is_text-append}
use Rattle.durable_lines.proofs.SyncLemmas.{settle_on_ok}
use Rattle.durable_lines.proofs.append.append_lines.Goals as goal

pub returns-in_err-append-clause-any_moment : goal.returns-in_err-append-clause-any_moment
returns-in_err-append-clause-any_moment g c acts =
    after_append g.F.DurableFile.model c.args.file.now c.args.text.now
    (c.requires.settled acts) _ c.append.ensures.call.time c.append.ensures.crash

pub returns-clause-any_moment : goal.returns-clause-any_moment
returns-clause-any_moment g c acts =
    after_sync g.F.DurableFile.model c.args.file.now c.args.text.now (c.requires.settled acts) _
    c.append.ensures.call.time c.append.ensures.crash _ c.sync.ensures.call.time
    c.sync.ensures.crash

pub returns-clause-lines : goal.returns-clause-lines
returns-clause-lines g c =
    on_ok_weaker c.sync.result
    (λ same acts. ap lines_in (same ∙ c.in_ok-append.ensures.written acts)
    ∙ lines_in-append _ c.args.text.now (c.requires.settled acts).text)
    c.sync.ensures.unchanged

pub returns-clause-settled : goal.returns-clause-settled
returns-clause-settled g c =
    settle_on_ok g.F.DurableFile.model c.sync.result _ _
    (λ acts. subst IsText (sym (c.in_ok-append.ensures.written acts))
    (is_text-append _ c.args.text.now (c.requires.settled acts).text c.requires.text))
    c.sync.ensures.unchanged c.sync.ensures.durable c.sync.ensures.stored
