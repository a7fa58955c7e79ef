use Rattle.std.proofs.Common.{◌≡◌, ◌++◌, take}
use Rattle.std.specs.List.{flat_map}
use Rattle.ledger_records.specs.Json.{json_line}
use Rattle.ledger_records.proofs.printing.put_json_rows.Given as goal

-- the lines so far are written
abbrev pub invariant-lines : goal.invariant-lines
invariant-lines l =
    l.out.items ≡ l.fn.out.items ++ flat_map json_line (take l.line-index l.lines)
