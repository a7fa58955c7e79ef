use Rattle.std.proofs.Common.{sym, ap, ◌∙◌, arith}
use Rattle.cosem_datetime.specs.Matching.{date_holds}
use Rattle.cosem_datetime.proofs.SomeFacts.{none_below_zero, none_below_more, some_below_found}
use Rattle.cosem_datetime.proofs.date.DatePattern.past_week_holds.Goals as goal

pub loop-back-init : goal.loop-back-init
loop-back-init c = none_below_zero _

pub loop-back-preserved : goal.loop-back-preserved
loop-back-preserved c =
    none_below_more _ _ c.loop-back.invariant
    (ap (date_holds c.args.self.now) (sym c.date_of_day.ensures.date)
    ∙ (sym c.holds.ensures ∙ c.if-holds.false))

pub returns-then-holds : goal.returns-then-holds
returns-then-holds c =
    sym (some_below_found _ 7 c.loop-back.back (omega arith)
    (ap (date_holds c.args.self.now) (sym c.date_of_day.ensures.date)
    ∙ (sym c.holds.ensures ∙ c.if-holds.true)))
