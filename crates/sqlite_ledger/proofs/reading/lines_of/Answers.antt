use Rattle.std.proofs.Common.{◌≡◌, ◌∙◌, length, arith, sym}
use Rattle.sqlite_ledger.proofs.AnswerReads.{pushed_by}
use Rattle.sqlite_ledger.proofs.LineLemmas.{lines_more}
use Rattle.sqlite_ledger.proofs.reading.lines_of.Goals as goal

pub rows-preserved : goal.rows-preserved
rows-preserved c =
    let old = c.rows.lines.items in
    let new = c.push.new.self.items in
    let at_end : c.len-place.result ≡ length old = omega arith in
    let pushed = pushed_by c.push.result old new _
    (sym c.is_err.ensures.value ∙ c.if-is_err.false) c.push.ensures.items in
    lines_more c.args.rows.now c.args.entries.now c.args.begun.now c.args.ended.now
    c.requires.entry_each c.requires.begun_each c.requires.ended_each old new c.rows.row-index
    c.len-place.result c.row-item.result c.in_ok-job.job (omega arith) c.rows.invariant.0 at_end
    c.row-item.is c.in_ok-job.ensures pushed c.rows.invariant.1
