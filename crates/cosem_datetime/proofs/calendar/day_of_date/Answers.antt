use Rattle.std.proofs.Common.{◌≡◌, ◌-◌, ap, arith}
use Rattle.std.specs.Prelude.{Some}
use Rattle.cosem_datetime.specs.Calendar.{day_count}
use Rattle.cosem_datetime.proofs.Jiff.{to_jiff}
use Rattle.cosem_datetime.proofs.calendar.day_of_date.Goals as goal

pub overflow_sub-result : goal.overflow_sub-result
overflow_sub-result c =
    let day = to_jiff _ _ c.args.date c.days_since_min.result c.requires.year c.requires.month
    c.requires.day c.in-Ok.ensures.value c.to_plain.ensures c.days_since_min.ensures.value in
    omega (arith, day.1)

pub returns-in-Ok-clause-value : goal.returns-in-Ok-clause-value
returns-in-Ok-clause-value c =
    let day = to_jiff _ _ c.args.date c.days_since_min.result c.requires.year c.requires.month
    c.requires.day c.in-Ok.ensures.value c.to_plain.ensures c.days_since_min.ensures.value in
    let less : c.days_since_min.result - 3_652_059 ≡ day_count c.args.date = omega (arith, day.1) in
    rw day.0 (ap Some less)
