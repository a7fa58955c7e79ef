use Rattle.std.proofs.Common.{◌≡◌, ◌<◌, [], ◌∷◌, ◌++◌, ◌+◌, take, length, arith, ap, subst, sym, ◌∙◌}
use Rattle.std.proofs.SliceLists.{all_zipped_more}
use Rattle.std.proofs.lemmas.List.{take_more}
use Rattle.std.proofs.lemmas.List.Elements.{All-push}
use Rattle.std.specs.List.{All, AllZip}
use Rattle.sqlite_ledger.specs.Answers.{IsAnswerIn, IsControlState}
use Rattle.sqlite_ledger.proofs.AnswerReads.{pushed_by}
use Rattle.sqlite_ledger.proofs.answers.reading.answers_of.Goals as goal

pub rows-preserved : goal.rows-preserved
rows-preserved c =
    let rows = c.args.rows.now in
    let i = c.rows.row-index in
    let row = c.row-item.result in
    let below : i < length rows = omega arith in
    let pushed = pushed_by c.push.result c.rows.answers.items c.push.new.self.items
    (c.in-Ok.answer ∷ []) (sym c.is_err.ensures.value ∙ c.if-is_err.false) c.push.ensures.items in
    let more : take (i + 1) rows ≡ take i rows ++ row ∷ [] =
    take_more rows i row below ∙ ap (λ r. take i rows ++ r ∷ []) (sym c.row-item.is) in
    let zipped = all_zipped_more IsAnswerIn (take i rows) c.rows.answers.items row c.in-Ok.answer
    c.rows.invariant.0 c.in-Ok.ensures in (
      subst (λ xs. AllZip IsAnswerIn xs c.push.new.self.items) (sym more)
          (subst (AllZip IsAnswerIn (take i rows ++ row ∷ [])) (sym pushed) zipped),
      subst (All (λ answer. IsControlState answer.answer.state)) (sym pushed)
          (All-push (λ answer. IsControlState answer.answer.state) c.rows.answers.items
          c.in-Ok.answer c.rows.invariant.1 c.in-Ok.ensures.is_state),
    )
