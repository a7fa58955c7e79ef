use Rattle.std.proofs.Common.{List, ℕ, OnOk, subst}
use Rattle.durable_lines.specs.RawFolder.{CreatesName}
use Rattle.durable_lines.proofs.stored_place.StoredPlacePlace.create_draft.Goals as goal

pub returns-clause-also : goal.returns-clause-also
returns-clause-also g c =
    let folder = g.F.RawFolder in
    rw c.record_failure.ensures.call
    (subst (λ (name : List ℕ). OnOk c.open_draft-call.result (folder.acts
    → CreatesName name (folder.calls c.args.self.now.folder)
    (folder.calls c.open_draft-call.new.folder))) c.as_str-path.ensures.value
    c.open_draft-call.ensures.created)
