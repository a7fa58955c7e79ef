use Rattle.std.proofs.Common.{arith}
use Rattle.head_end.proofs.ReadingLemmas.{left_all, left_more, wrong_line, wrong_last, read_last, lines_few}
use Rattle.head_end.proofs.jobs.read_lines.Goals as goal

pub lines-init : goal.lines-init
lines-init c = rw c.new-jobs.ensures (left_all c.args.text.now)

pub returns-in-Err : goal.returns-in-Err
returns-in-Err c =
    wrong_line c.args.text.now c.lines.jobs c.add_job.new.jobs c.lines.number c.lines.rest.now
    c.in-Some.line.now c.in-Some.next_rest.now c.in-Err.fault c.lines.invariant
    c.in-Some.ensures.lines c.in-Some.ensures.unended c.in-Err.ensures

pub overflow_add-number : goal.overflow_add-number
overflow_add-number c = omega (arith, c.lines.invariant.count, lines_few c.args.text.now)

pub lines-preserved : goal.lines-preserved
lines-preserved c =
    left_more c.args.text.now c.lines.jobs c.add_job.new.jobs c.lines.number c.lines.rest.now
    c.in-Some.line.now c.in-Some.next_rest.now c.lines.invariant
    c.in-Some.ensures.lines c.in-Some.ensures.unended c.in-Ok.ensures

pub returns-in-Err-add_job : goal.returns-in-Err-add_job
returns-in-Err-add_job c =
    wrong_last c.args.text.now c.lines.jobs c.add_job-2.new.jobs c.lines.number c.lines.rest.now
    c.in-Err-add_job.fault c.lines.invariant
    c.in_default.ensures.lines c.in_default.ensures.unended c.in-Err-add_job.ensures

pub returns-in-Ok-add_job : goal.returns-in-Ok-add_job
returns-in-Ok-add_job c =
    read_last c.args.text.now c.lines.jobs c.add_job-2.new.jobs c.lines.number c.lines.rest.now
    c.lines.invariant
    c.in_default.ensures.lines c.in_default.ensures.unended c.in-Ok-add_job.ensures
