use Rattle.acse_ber.specs.Text.{aare_text}
use Rattle.acse_ber.proofs.Aares.{aare_again}
use Rattle.acse_ber.proofs.Texts.{aare_spells}
use Rattle.acse_ber.proofs.laws.text_of_fit_aare_spells.Goals as goal

pub returns-clause-fit : goal.returns-clause-fit
returns-clause-fit c = aare_spells

pub returns-clause-read_back : goal.returns-clause-read_back
returns-clause-read_back c = λ a fit. aare_again (aare_text a) a (aare_spells a fit)
