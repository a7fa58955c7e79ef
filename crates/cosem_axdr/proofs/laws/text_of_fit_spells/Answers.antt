use Rattle.cosem_axdr.proofs.Texts.{text_spells}
use Rattle.cosem_axdr.proofs.laws.text_of_fit_spells.Goals as goal

pub returns : goal.returns
returns c = text_spells
