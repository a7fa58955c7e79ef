use Rattle.acse_ber.specs.Text.{aarq_text}
use Rattle.acse_ber.proofs.Aarqs.{aarq_again}
use Rattle.acse_ber.proofs.Texts.{aarq_spells}
use Rattle.acse_ber.proofs.laws.text_of_fit_aarq_spells.Goals as goal

pub returns-clause-fit : goal.returns-clause-fit
returns-clause-fit c = aarq_spells

pub returns-clause-read_back : goal.returns-clause-read_back
returns-clause-read_back c = λ a fit. aarq_again (aarq_text a) a (aarq_spells a fit)
