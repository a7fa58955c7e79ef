use Rattle.std.proofs.Common.{sym, ◌∙◌, arith}
use Rattle.cosem_datetime.proofs.FirstFacts.{hours, whole_fails, left_fails, left_found}
use Rattle.cosem_datetime.proofs.time.TimePattern.first_in_this_hour.Goals as goal

pub returns-then-not-field_holds : goal.returns-then-not-field_holds
returns-then-not-field_holds c =
    rw (← c.self.view_is) (whole_fails 3600 _ _ c.args.from hours
    (sym c.field_holds.ensures ∙ c.if-not-field_holds.true))

pub returns-in_err-second : goal.returns-in_err-second
returns-in_err-second c =
    rw (c.from_residual.ensures, ← c.self.view_is)
    (left_fails 3600 _ _ c.args.from (omega arith) hours c.in_err-second.ensures)

pub returns : goal.returns
returns c =
    rw (← c.self.view_is) (left_found 3600 _ _ c.args.from c.in_ok-second.second hours
    (sym c.field_holds.ensures ∙ c.if-not-field_holds.false) c.in_ok-second.ensures)
