use Rattle.std.proofs.Common.{◌∙◌, ap, arith}
use Rattle.campaign_board.specs.declared.place.Ending.{Ending}
use Rattle.std.proofs.Common.{Option}
use Rattle.campaign_loop.specs.Rows.{row_of}
use Rattle.campaign_loop.proofs.Filling.{fills_more, same_ids}
use Rattle.campaign_loop.proofs.rows.fill_rows.Goals as goal

pub loop-at-preserved : goal.loop-at-preserved
loop-at-preserved g c = fills_more g.B.Book.is_honest g.B.Book.is_marked c.args.board.now
    c.args.blank c.args.lines.now c.loop-at.at c.loop-at.lines c.index-lines-at.result
    c.row_of-row.result (omega (arith, c.loop-at.invariant.len)) c.loop-at.invariant
    (record {
      row_is = λ terms steps is within. c.row_of-row.ensures
          ∙ ap (λ (e : Option Ending). row_of c.args.blank e)
          (c.ending.ensures.told terms steps is within);
    })

pub returns-clause-names : goal.returns-clause-names
returns-clause-names g c = same_ids c.args.lines.now c.loop-at.lines c.loop-at.invariant.len
    c.loop-at.invariant.ids
