use Rattle.std.proofs.Common.{◌∙◌, rules}
use Rattle.cosem_datetime.proofs.Jiff.{date_from_jiff}
use Rattle.cosem_datetime.proofs.calendar.date_of_day.Goals as goal

pub overflow_cast-result : goal.overflow_cast-result
overflow_cast-result c =
    let found = date_from_jiff _ _ c.args.day (c.to_plain-date.ensures ∙ c.from_plain.ensures)
    c.from_days_since_min.ensures in
    rw found.1.0 (search rules)

pub returns-clause-date : goal.returns-clause-date
returns-clause-date c =
    let found = date_from_jiff _ _ c.args.day (c.to_plain-date.ensures ∙ c.from_plain.ensures)
    c.from_days_since_min.ensures in
    rw found.1.0 found.1.1.1
