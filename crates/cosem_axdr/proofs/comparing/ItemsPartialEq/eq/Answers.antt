use Rattle.cosem_axdr.specs.EqualityLaws.{are_same-is}
use Rattle.cosem_axdr.proofs.comparing.ItemsPartialEq.eq.Goals as goal

pub returns : goal.returns
returns c = are_same-is c.items_are_same.result c.args.self.now c.args.other.now
    c.items_are_same.ensures
