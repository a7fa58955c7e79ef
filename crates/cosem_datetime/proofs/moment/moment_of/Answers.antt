use Rattle.std.proofs.Common.{rules, sym, ◌∙◌, FitsSigned, w16, w64}
use Rattle.cosem_datetime.specs.Fields.{DateTimeFields}
use Rattle.cosem_datetime.proofs.MomentFacts.{no_date, no_time, too_late, no_such_date, other_weekday, right_date, cast_back}
use Rattle.cosem_datetime.proofs.moment.moment_of.Goals as goal

pub returns-in_err-date : goal.returns-in_err-date
returns-in_err-date c =
    c.from_residual.ensures ∙ sym (rw (← c.field.view_is)
    (no_date _ (sym c.in_err-date.ensures.date)))

pub returns-in_err-second : goal.returns-in_err-second
returns-in_err-second c =
    c.from_residual-in_err-second.ensures ∙ sym
    (rw (← c.field.view_is) (no_time _ c.in_ok-date.date (sym c.in_ok-date.ensures.date)
    (sym c.in_err-second.ensures.second)))

pub returns-then-date-gt-LAST_YEAR : goal.returns-then-date-gt-LAST_YEAR
returns-then-date-gt-LAST_YEAR c =
    sym (rw (← c.field.view_is) (too_late _ c.in_ok-date.date c.in_ok-second.second
    c.field.invariant.0 (sym c.in_ok-date.ensures.date) (sym c.in_ok-second.ensures.second)
    c.if-date-gt-LAST_YEAR.true))

pub returns-in_err-day : goal.returns-in_err-day
returns-in_err-day c =
    c.from_residual-in_err-day.ensures ∙ sym (rw (← c.field.view_is)
    (no_such_date _ c.in_ok-date.date c.in_ok-second.second (sym c.in_ok-date.ensures.date)
    (sym c.in_ok-second.ensures.second) (sym c.in_err-day.ensures.value)))

pub returns-then-not-weekday_holds : goal.returns-then-not-weekday_holds
returns-then-not-weekday_holds c =
    sym (rw (← c.field.view_is) (other_weekday _ c.in_ok-date.date c.in_ok-second.second
    c.in_ok-day.day (sym c.in_ok-date.ensures.date) (sym c.in_ok-second.ensures.second)
    (sym c.in_ok-day.ensures.value) (sym c.weekday_holds.ensures ∙
    c.if-not-weekday_holds.true)))

pub returns : goal.returns
returns c =
    let f : DateTimeFields = record {
      date = c.field.inside.date;
      time = c.field.inside.time;
      deviation = c.field.inside.deviation;
      status = c.field.inside.status;
    } in
    let right = right_date f c.in_ok-date.date c.in_ok-second.second c.in_ok-day.day
    (sym c.in_ok-date.ensures.date) (sym c.in_ok-second.ensures.second)
    (sym c.in_ok-day.ensures.value) (sym c.weekday_holds.ensures ∙ c.if-not-weekday_holds.false)
    in
    let moved : FitsSigned w64 c.moved_seconds.result = search rules in
    let written : FitsSigned w64 c.written_seconds.result = search rules in
    let deviation : FitsSigned w16 c.unwrap_or-deviation.result = search rules in
    rw (← c.field.view_is) (cast_back _ _ _ _ _ _ moved written deviation
    c.seconds_of_u32.ensures c.moved_seconds.ensures c.written_seconds.ensures.value
    c.unwrap_or-deviation.ensures ∙ sym right)
