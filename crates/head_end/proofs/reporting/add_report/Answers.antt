use Rattle.std.proofs.Common.{◌≤◌, List, length, ap, sym, subst, arith}
use Rattle.std.proofs.lemmas.Grind.{common_steps}
use Rattle.std.specs.List.{All}
use Rattle.head_end.specs.declared.row.ReportLine.{ReportLine}
use Rattle.head_end.specs.Reports.{longest_name}
use Rattle.head_end.proofs.ReportLemmas.{on_error}
use Rattle.head_end.proofs.reporting.add_report.Goals as goal

pub lines-preserved : goal.lines-preserved
lines-preserved c = record {
  text = grind (arith, common_steps);
  within_max = λ short.
      let line = c.line-item.result in
      let here : length line.id ≤ longest_name =
      omega (
        arith,
        ap (λ (l : ReportLine). length l.id) c.line-item.is,
        short c.lines.line-index line (omega arith),
      ) in
      omega (arith, c.lines.invariant.within_max short, c.in_ok-put_line.ensures.within_max here);
  capacity = omega (arith, c.in_ok-put_line.ensures.capacity, c.lines.invariant.capacity);
}

pub returns-in_err-put_line-clause-room : goal.returns-in_err-put_line-clause-room
returns-in_err-put_line-clause-room c = λ named.
    let short = subst (λ (lines : List ReportLine).
    All (λ (line : ReportLine). length line.id ≤ longest_name) lines)
    (sym c.as_slice-line-items.ensures) named in
    let line = c.line-item.result in
    let here : length line.id ≤ longest_name =
    omega (
      arith,
      ap (λ (l : ReportLine). length l.id) c.line-item.is,
      short c.lines.line-index line (omega arith),
    ) in
    on_error c.from_residual.result
    (omega (
      arith,
      ap length c.as_slice-line-items.ensures,
      c.lines.invariant.capacity,
      c.lines.invariant.within_max short,
      c.in_err-put_line.ensures.room here,
    ))
