use Rattle.std.proofs.Common.{sym, ◌∙◌}
use Rattle.cosem_datetime.proofs.EntryFacts.{day_fails, day_tells}
use Rattle.cosem_datetime.proofs.entry.EntryPattern.matches_on.Goals as goal

pub returns-then-matches_day : goal.returns-then-matches_day
returns-then-matches_day c =
    day_tells c.args.self.now c.args.day c.args.from c.args.to c.matches_between.result
    c.requires.to_in_day (sym c.matches_day.ensures ∙ c.if-matches_day.true)
    c.matches_between.ensures

pub returns-else-matches_day : goal.returns-else-matches_day
returns-else-matches_day c =
    rw c.if-matches_day.false (day_fails c.args.self.now c.args.day c.args.from c.args.to
    c.requires.to_in_day (sym c.matches_day.ensures ∙ c.if-matches_day.false))
