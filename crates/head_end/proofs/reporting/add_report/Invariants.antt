use Rattle.std.proofs.Common.{◌≡◌, ◌+◌, ◌*◌, ◌≤◌, ◌++◌, length, take, vec_len, vec_capacity}
use Rattle.std.specs.List.{All, flat_map}
use Rattle.head_end.specs.declared.row.ReportLine.{ReportLine}
use Rattle.head_end.specs.Reports.{line_text, longest_name, longest_line}
use Rattle.head_end.proofs.reporting.add_report.Given as goal

-- the lines so far are written, and none is longer than the longest line
abbrev pub invariant-lines : goal.invariant-lines
invariant-lines l = record {
  text : l.out.items ≡ l.fn.out.items ++ flat_map line_text (take l.line-index l.line-items);
  within_max : All (λ (line : ReportLine). length line.id ≤ longest_name) l.line-items
      → vec_len l.out ≤ vec_len l.fn.out + longest_line * l.line-index;
  capacity : vec_capacity l.fn.out ≤ vec_capacity l.out;
}
