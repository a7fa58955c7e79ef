use Rattle.std.proofs.Common.{◌≡◌, ◌++◌, take}
use Rattle.std.specs.List.{flat_map}
use Rattle.ledger_reports.specs.Status.{look_text}
use Rattle.ledger_reports.proofs.state.put_second_looks.Given as goal

-- the lines so far are written
abbrev pub invariant-lines : goal.invariant-lines
invariant-lines l = l.out ≡ l.fn.out ++ flat_map look_text (take l.line-index l.lines)
