use Rattle.acse_ber.proofs.Fitting.{aare_fits}
use Rattle.acse_ber.proofs.Texts.{aare_spells}
use Rattle.acse_ber.proofs.laws.spelled_aare_is_fit.Goals as goal

pub returns-clause-fit : goal.returns-clause-fit
returns-clause-fit c = aare_fits

pub returns-clause-spelled : goal.returns-clause-spelled
returns-clause-spelled c = λ bytes a are s. aare_spells a (aare_fits bytes a are s)
