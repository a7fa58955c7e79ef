use Rattle.std.proofs.Common.{arith, rules}
use Rattle.head_end.proofs.CampaignLemmas.{same_length}
use Rattle.head_end.proofs.ReportLemmas.{short_lines}
use Rattle.head_end.proofs.printed.report_jobs.Goals as goal

-- the text has capacity for all lines, so appending them can't fail
pub returns-in_err-add_report-clause-unchanged_on_error
    : goal.returns-in_err-add_report-clause-unchanged_on_error
returns-in_err-add_report-clause-unchanged_on_error g c = λ short.
    let names = c.in_ok-report.ensures.names in
    let lines = short_lines c.args.jobs.now c.in_ok-report.report names short in
    absurd (omega (
      arith,
      c.in_err-add_report.ensures.room lines,
      c.in_ok-text.ensures.capacity,
      c.in_ok-text.ensures.len,
      c.len.ensures.count,
      same_length c.args.jobs.now c.in_ok-report.report names,
    ))

pub returns-clause-report : goal.returns-clause-report
returns-clause-report g c = record {
  lines = c.in_ok-report.report;
  text_is = search rules;
  lines_are = c.in_ok-report.ensures.lines;
  tried = c.in_ok-report.ensures.tried;
}
