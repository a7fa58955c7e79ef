use Rattle.acse_ber.proofs.Fitting.{aarq_fits}
use Rattle.acse_ber.proofs.Texts.{aarq_spells}
use Rattle.acse_ber.proofs.laws.spelled_aarq_is_fit.Goals as goal

pub returns-clause-fit : goal.returns-clause-fit
returns-clause-fit c = aarq_fits

pub returns-clause-spelled : goal.returns-clause-spelled
returns-clause-spelled c = λ bytes a are short s. aarq_spells a (aarq_fits bytes a are short s)
