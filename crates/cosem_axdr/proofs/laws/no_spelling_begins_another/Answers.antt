use Rattle.cosem_axdr.proofs.Values.{begins_no_other}
use Rattle.cosem_axdr.proofs.laws.no_spelling_begins_another.Goals as goal

pub returns : goal.returns
returns c = begins_no_other
