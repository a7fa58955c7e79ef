use Rattle.std.proofs.Common.{arith, ◌∙◌, rules}
use Rattle.campaign_loop.proofs.Filling.{short_lines, same_length}
use Rattle.campaign_loop.proofs.Running.{reports_run}
use Rattle.campaign_loop.proofs.campaign.run_campaign.Goals as goal

-- the text has capacity for all lines, so appending them can't fail
pub returns-in_err-add_report-clause-unchanged_on_error
    : goal.returns-in_err-add_report-clause-unchanged_on_error
returns-in_err-add_report-clause-unchanged_on_error g c = λ short.
    let names = c.report_of-report.ensures.names ∙ c.in_ok-lines.ensures in
    absurd (omega (
      arith,
      c.in_err-add_report.ensures.room (short_lines c.args.list.now.jobs.now
          c.report_of-report.result names short),
      c.in_ok-text.ensures.capacity,
      c.in_ok-text.ensures.len,
      c.in-Some.ensures,
      same_length c.args.list.now.jobs.now c.report_of-report.result names,
    ))

pub returns-clause-report : goal.returns-clause-report
returns-clause-report g c =
    reports_run g.B.Book.is_honest g.B.Book.is_marked c.args.list.now.jobs.now
    c.args.list.now.passwords.now c.args.list.now.choices.now c.from_vec.result c.run-end.result
    c.args.board.now c.run-end.new.board _ _ c.report_of-report.result c.run-end.ensures
    c.report_of-report.ensures.rows (c.report_of-report.ensures.names ∙ c.in_ok-lines.ensures)
    (search rules)
