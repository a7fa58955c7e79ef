use Rattle.std.proofs.Common.{◌+◌, ◌∙◌, ap, pos, arith}
use Rattle.jiff_core.specs.Date.{weekday_of}
use Rattle.cosem_datetime.proofs.Jiff.{weekday_from_jiff, small_weekday}
use Rattle.cosem_datetime.proofs.calendar.weekday.Goals as goal

pub returns : goal.returns
returns c =
    let found = weekday_from_jiff _ _ c.args.day
    c.from_plain-date.ensures c.from_days_since_min.ensures in
    small_weekday _ (weekday_of c.from_plain-date.result) (c.to_monday_one_offset.ensures.value
    ∙ ap (λ n. pos (n + 1)) c.weekday.ensures) (omega (arith, found)) ∙ found
