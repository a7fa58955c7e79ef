use Rattle.std.proofs.Common.{sym, ◌∙◌, arith}
use Rattle.cosem_datetime.proofs.FirstFacts.{minutes, whole_fails, left_fails, left_found}
use Rattle.cosem_datetime.proofs.time.first_in_minute.Goals as goal

pub returns-then-not-field_holds : goal.returns-then-not-field_holds
returns-then-not-field_holds c =
    whole_fails 60 _ _ c.args.from minutes (sym c.field_holds.ensures ∙ c.if-not-field_holds.true)

pub returns-in_err-second : goal.returns-in_err-second
returns-in_err-second c =
    rw c.from_residual.ensures (left_fails 60 _ _ c.args.from
    (omega arith) minutes c.in_err-second.ensures)

pub returns : goal.returns
returns c =
    left_found 60 _ _ c.args.from c.in_ok-second.second minutes
    (sym c.field_holds.ensures ∙ c.if-not-field_holds.false) c.in_ok-second.ensures
