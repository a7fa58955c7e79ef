use Rattle.std.proofs.Common.{◌≡◌, ◌≤◌, take}
use Rattle.ledger_reports.specs.Status.{count_of}
use Rattle.ledger_reports.proofs.state.count.Given as goal

-- the jobs so far with this standing
abbrev pub invariant-lines : goal.invariant-lines
invariant-lines l = (l.count ≡ count_of l.standing (take l.line-index l.lines))
    × (l.count ≤ l.line-index)
