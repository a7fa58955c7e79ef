use Rattle.std.proofs.Common.{◌≡◌, ◌-◌, false}
use Rattle.cosem_datetime.specs.Calendar.{date_of_day}
use Rattle.cosem_datetime.specs.Matching.{date_holds, some_below}
use Rattle.cosem_datetime.proofs.date.DatePattern.past_week_holds.Given as goal

abbrev pub invariant-loop-back : goal.invariant-loop-back
invariant-loop-back l = some_below (λ back. date_holds l.self (date_of_day (l.day - back))) l.back
    ≡ false
