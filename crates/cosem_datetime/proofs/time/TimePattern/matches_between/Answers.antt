use Rattle.cosem_datetime.proofs.FirstFacts.{first_tells, none_tells}
use Rattle.cosem_datetime.proofs.time.TimePattern.matches_between.Goals as goal

pub returns-in-Some : goal.returns-in-Some
returns-in-Some c =
    first_tells c.args.self.now c.args.from c.args.to c.in-Some.first c.requires.to_in_day
    c.in-Some.ensures

pub returns-in-None : goal.returns-in-None
returns-in-None c =
    none_tells c.args.self.now c.args.from c.args.to c.requires.to_in_day c.in-None.ensures
