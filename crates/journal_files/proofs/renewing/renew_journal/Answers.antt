use Rattle.std.proofs.Common.{sym, subst}
use Rattle.journal_files.specs.Renewals.{IsRenewalOf}
use Rattle.journal_files.proofs.RenewalLemmas.{read_stays, replaced_any}
use Rattle.journal_files.proofs.renewing.renew_journal.Goals as goal

pub returns-in_err-text-clause-any_moment : goal.returns-in_err-text-clause-any_moment
returns-in_err-text-clause-any_moment g c acts =
    read_stays g.P.DurableFile.model c.args.place.now _ _ c.renew_text_of.ensures.time
    c.renew_text_of.ensures.crash

pub returns-in_err-replace-clause-any_moment : goal.returns-in_err-replace-clause-any_moment
returns-in_err-replace-clause-any_moment g c acts =
    replaced_any g.P.DurableFile.model c.args.depth c.args.place.now _ _ c.as_slice.result.now
    c.renew_text_of.ensures.time c.renew_text_of.ensures.crash
    (subst (IsRenewalOf c.args.depth _) (sym c.as_slice.ensures)
    (c.in_ok-text.ensures.renewed acts))
    (c.replace.ensures.any_moment acts)

pub returns-clause-any_moment : goal.returns-clause-any_moment
returns-clause-any_moment g c acts =
    replaced_any g.P.DurableFile.model c.args.depth c.args.place.now _ _ c.as_slice.result.now
    c.renew_text_of.ensures.time c.renew_text_of.ensures.crash
    (subst (IsRenewalOf c.args.depth _) (sym c.as_slice.ensures)
    (c.in_ok-text.ensures.renewed acts))
    (c.replace.ensures.any_moment acts)
