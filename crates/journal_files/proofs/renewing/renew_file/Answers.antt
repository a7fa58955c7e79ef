use Rattle.std.proofs.Common.{sym, subst}
use Rattle.durable_lines.specs.Lines.{IsText}
use Rattle.journal_files.specs.Renewals.{IsRenewalOf}
use Rattle.journal_files.proofs.RenewalLemmas.{replaced_leaves}
use Rattle.journal_files.proofs.renewing.renew_file.Goals as goal

pub returns-in_err-replace-in-Ok-clause-any_moment
    : goal.returns-in_err-replace-in-Ok-clause-any_moment
returns-in_err-replace-in-Ok-clause-any_moment g c acts =
    replaced_leaves g.P.DurableFile.model c.args.place.now _ _ c.args.depth _ (c.requires acts)
    c.renew_text_of.ensures.time c.renew_text_of.ensures.crash
    (subst (IsRenewalOf c.args.depth _) (sym c.as_slice.ensures) (c.in-Ok.ensures.renewed acts))
    (subst IsText (sym c.as_slice.ensures) c.in-Ok.ensures.is_text)
    (c.replace.ensures.any_moment acts)

pub returns-in_ok-replace-in-Ok-clause-any_moment
    : goal.returns-in_ok-replace-in-Ok-clause-any_moment
returns-in_ok-replace-in-Ok-clause-any_moment g c acts =
    replaced_leaves g.P.DurableFile.model c.args.place.now _ _ c.args.depth _ (c.requires acts)
    c.renew_text_of.ensures.time c.renew_text_of.ensures.crash
    (subst (IsRenewalOf c.args.depth _) (sym c.as_slice.ensures) (c.in-Ok.ensures.renewed acts))
    (subst IsText (sym c.as_slice.ensures) c.in-Ok.ensures.is_text)
    (c.replace.ensures.any_moment acts)
