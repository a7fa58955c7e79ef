use Rattle.std.proofs.Common.{◌≤◌, ◌+◌, ◌*◌, ◌/◌, arith}
use Rattle.cosem_datetime.proofs.FirstFacts.{hours, none_then, first_then, later_fails, all_fail, later_found}
use Rattle.cosem_datetime.proofs.time.TimePattern.first_in_day.Goals as goal

pub returns-in_err-hour : goal.returns-in_err-hour
returns-in_err-hour c =
    rw (c.from_residual.ensures) (none_then _ _ _ 86400 c.in_default.ensures (rw (← c.self.view_is)
    (later_fails 3600 _ _ (c.args.from / 3600 + 1) 24 hours c.in_err-hour.ensures)))

pub returns-in_err-second : goal.returns-in_err-second
returns-in_err-second c =
    rw (c.from_residual-in_err-second.ensures, ← c.self.view_is)
    (all_fail 3600 _ _ c.args.from 86400 (omega arith) c.in_err-second.ensures)

pub returns : goal.returns
returns c =
    let forward : c.args.from ≤ 3600 * (c.args.from / 3600 + 1) = omega arith in
    first_then _ _ _ 86400 _ forward c.in_default.ensures (rw (← c.self.view_is)
    (later_found 3600 _ _ (c.args.from / 3600
    + 1) 24 _ _ hours c.in_ok-hour.ensures c.in_ok-second.ensures))
