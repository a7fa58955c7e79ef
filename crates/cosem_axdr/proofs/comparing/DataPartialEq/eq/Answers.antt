use Rattle.cosem_axdr.specs.EqualityLaws.{is_same-is}
use Rattle.cosem_axdr.proofs.comparing.DataPartialEq.eq.Goals as goal

pub returns : goal.returns
returns c = is_same-is c.is_same.result c.args.self.now c.args.other.now c.is_same.ensures
