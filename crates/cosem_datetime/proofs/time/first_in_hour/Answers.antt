use Rattle.std.proofs.Common.{◌≤◌, ◌+◌, ◌*◌, ◌/◌, arith}
use Rattle.cosem_datetime.proofs.FirstFacts.{minutes, none_then, first_then, later_fails, all_fail, later_found}
use Rattle.cosem_datetime.proofs.time.first_in_hour.Goals as goal

pub returns-in_err-minute : goal.returns-in_err-minute
returns-in_err-minute c =
    rw c.from_residual.ensures (none_then _ _ _ 3600 c.in_default.ensures (later_fails 60 _ _
    (c.args.from / 60 + 1) 60 minutes c.in_err-minute.ensures))

pub returns-in_err-second : goal.returns-in_err-second
returns-in_err-second c =
    rw c.from_residual-in_err-second.ensures (all_fail 60 _ _ c.args.from 3600
    (omega arith) c.in_err-second.ensures)

pub returns : goal.returns
returns c =
    let forward : c.args.from ≤ 60 * (c.args.from / 60 + 1) = omega arith in
    first_then _ _ _ 3600 _ forward c.in_default.ensures (later_found 60 _ _ (c.args.from / 60
    + 1) 60 _ _ minutes c.in_ok-minute.ensures c.in_ok-second.ensures)
