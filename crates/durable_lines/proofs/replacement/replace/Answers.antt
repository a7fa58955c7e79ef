use Rattle.std.proofs.Common.{sym, ◌∙◌, subst}
use Rattle.std.proofs.lemmas.Result.{on_ok_weaker}
use Rattle.durable_lines.proofs.ReplaceLemmas.{after_folder, after_rename, draft_bytes}
use Rattle.durable_lines.proofs.ReplaceLemmas.{draft_outcome, settle_named}
use Rattle.durable_lines.proofs.replacement.replace.Goals as goal

pub returns-in_err-rename-clause-any_moment : goal.returns-in_err-rename-clause-any_moment
returns-in_err-rename-clause-any_moment g c acts =
    after_rename g.P.DurableFile.model c.args.place.now c.args.bytes.now _
    c.create_draft.ensures.call.time c.create_draft.ensures.crash _ _ c.rename.ensures.call.time
    (draft_outcome _ _ _ _ c.in_ok-draft.ensures.empty
    (c.in_ok-append.ensures.written (g.met.P.Place.drafts_act acts))
    c.in_ok-sync.ensures.durable) c.rename.ensures.crash

pub returns-clause-any_moment : goal.returns-clause-any_moment
returns-clause-any_moment g c acts =
    after_folder g.P.DurableFile.model c.args.place.now c.args.bytes.now _
    c.create_draft.ensures.call.time c.create_draft.ensures.crash _ _ c.rename.ensures.call.time
    (draft_outcome _ _ _ _ c.in_ok-draft.ensures.empty
    (c.in_ok-append.ensures.written (g.met.P.Place.drafts_act acts))
    c.in_ok-sync.ensures.durable) c.rename.ensures.crash _ c.sync_folder.ensures.call.time
    c.sync_folder.ensures.crash

pub returns-clause-bytes : goal.returns-clause-bytes
returns-clause-bytes g c =
    on_ok_weaker c.sync_folder.result
    (λ same acts. same ∙ c.in_ok-rename.ensures.seen ∙ c.in_ok-sync.ensures.unchanged
    ∙ draft_bytes _ _ _ c.in_ok-draft.ensures.empty
    (c.in_ok-append.ensures.written (g.met.P.Place.drafts_act acts)))
    c.sync_folder.ensures.unchanged

pub returns-clause-replaced : goal.returns-clause-replaced
returns-clause-replaced g c =
    on_ok_weaker c.sync_folder.result
    (λ durable acts f left. draft_outcome _ _ _ _ c.in_ok-draft.ensures.empty
    (c.in_ok-append.ensures.written (g.met.P.Place.drafts_act acts))
    c.in_ok-sync.ensures.durable f (c.in_ok-rename.ensures.renamed f (durable f left)))
    c.sync_folder.ensures.durable

pub returns-clause-settled : goal.returns-clause-settled
returns-clause-settled g c =
    let model = g.P.DurableFile.model in
    let draft = g.P.Draft.DurableFile.model in
    let bytes = c.args.bytes.now in
    let is = λ (acts : model.acts). draft_bytes (draft.seen c.in_ok-draft.draft)
    (draft.seen c.append.new.self) bytes c.in_ok-draft.ensures.empty
    (c.in_ok-append.ensures.written (g.met.P.Place.drafts_act acts)) in
    settle_named model c.sync_folder.result c.rename.new.self c.sync_folder.new.self bytes
    (λ acts. c.in_ok-rename.ensures.seen ∙ c.in_ok-sync.ensures.unchanged ∙ is acts)
    (λ acts. subst (λ i. model.stored i bytes) (sym c.sync_folder.ensures.call.identity)
    (c.in_ok-rename.ensures.stored bytes
    (subst (draft.stored (draft.identity c.sync.new.self)) (is acts)
    (c.in_ok-sync.ensures.stored (g.met.P.Place.drafts_act acts)))))
    c.sync_folder.ensures.unchanged (returns-clause-replaced g c)
