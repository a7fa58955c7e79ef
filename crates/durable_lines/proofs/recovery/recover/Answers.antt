use Rattle.std.proofs.Common.{length, take, sym, ◌∙◌, ap, subst}
use Rattle.durable_lines.specs.Lines.{lines_in, text_of, IsText}
use Rattle.durable_lines.proofs.LineLemmas.{lines_in-same}
use Rattle.durable_lines.proofs.RecoveryLemmas.{after_cut, after_resync, cut_text, lines_text}
use Rattle.durable_lines.proofs.SyncLemmas.{settle}
use Rattle.durable_lines.proofs.recovery.recover.Goals as goal

pub returns-in_err-cut-clause-any_moment : goal.returns-in_err-cut-clause-any_moment
returns-in_err-cut-clause-any_moment g c acts =
    after_cut g.F.DurableFile.model c.args.file.now _ c.sync.ensures.call.time
    c.sync.ensures.crash _ c.read.ensures.call.time c.read.ensures.crash c.whole_len-len.result _
    (c.whole_len-len.ensures.len ∙ ap (λ l. length (text_of (lines_in l)))
    (c.deref.ensures.value ∙ c.in_ok-text.ensures.bytes acts ∙ c.in_ok-sync.ensures.unchanged))
    c.in_ok-sync.ensures.durable c.cut.ensures.call.time c.cut.ensures.crash

pub returns-in_err-sync-2-clause-any_moment : goal.returns-in_err-sync-2-clause-any_moment
returns-in_err-sync-2-clause-any_moment g c acts =
    after_resync g.F.DurableFile.model c.args.file.now _ c.sync.ensures.call.time
    c.sync.ensures.crash _ c.read.ensures.call.time c.read.ensures.crash c.whole_len-len.result _
    (c.whole_len-len.ensures.len ∙ ap (λ l. length (text_of (lines_in l)))
    (c.deref.ensures.value ∙ c.in_ok-text.ensures.bytes acts ∙ c.in_ok-sync.ensures.unchanged))
    c.in_ok-sync.ensures.durable c.cut.ensures.call.time c.cut.ensures.crash _
    c.sync-2.ensures.call.time c.sync-2.ensures.crash

pub returns-clause-any_moment : goal.returns-clause-any_moment
returns-clause-any_moment g c acts =
    after_resync g.F.DurableFile.model c.args.file.now _ c.sync.ensures.call.time
    c.sync.ensures.crash _ c.read.ensures.call.time c.read.ensures.crash c.whole_len-len.result _
    (c.whole_len-len.ensures.len ∙ ap (λ l. length (text_of (lines_in l)))
    (c.deref.ensures.value ∙ c.in_ok-text.ensures.bytes acts ∙ c.in_ok-sync.ensures.unchanged))
    c.in_ok-sync.ensures.durable c.cut.ensures.call.time c.cut.ensures.crash _
    c.sync-2.ensures.call.time c.sync-2.ensures.crash

pub returns-clause-text : goal.returns-clause-text
returns-clause-text g c acts =
    cut_text c.whole_len-len.result _ _ _ _ _ c.in_ok-sync.ensures.unchanged
    (c.in_ok-text.ensures.bytes acts) c.deref.ensures.value c.whole_len-len.ensures.len
    c.truncate.ensures.items

-- the file is the text of its lines
pub returns-clause-seen : goal.returns-clause-seen
returns-clause-seen g c acts =
    c.in_ok-sync-2.ensures.unchanged ∙ c.in_ok-cut.ensures.cut acts
    ∙ ap (take c.whole_len-len.result)
    (c.read.ensures.unchanged ∙ sym (c.in_ok-text.ensures.bytes acts))
    ∙ sym c.truncate.ensures.items

pub returns-clause-same : goal.returns-clause-same
returns-clause-same g c acts =
    ap lines_in (returns-clause-seen g c acts ∙ returns-clause-text g c acts)
    ∙ lines_in-same (g.F.DurableFile.model.seen c.args.file.now)

pub returns-clause-settled : goal.returns-clause-settled
returns-clause-settled g c acts =
    let model = g.F.DurableFile.model in
    settle model c.cut.new.self c.sync-2.new.self
    (subst IsText (sym (sym c.in_ok-sync-2.ensures.unchanged ∙ returns-clause-seen g c acts
    ∙ returns-clause-text g c acts)) (lines_text (model.seen c.args.file.now)))
    c.in_ok-sync-2.ensures.unchanged c.in_ok-sync-2.ensures.durable
    (c.in_ok-sync-2.ensures.stored acts)
