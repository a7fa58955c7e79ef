use Rattle.std.proofs.Common.{List, ℕ, subst, sym}
use Rattle.std.proofs.lemmas.List.{take_all, take_more}
use Rattle.campaign_board.specs.Updates.{ClearsMarked}
use Rattle.campaign_board.proofs.ClearLemmas.{clears_none, clears_more}
use Rattle.campaign_board.proofs.places.clear_marked.Goals as goal

pub marks-init : goal.marks-init
marks-init c = clears_none c.args.places.now.items

pub marks-preserved : goal.marks-preserved
marks-preserved c =
    subst (λ (ms : List ℕ). ClearsMarked ms c.args.places.now.items c.clear_at.new.places.items)
    (sym (take_more c.args.marks.now c.marks.mark-index 0 c.marks-test.true))
    (clears_more _ _ _ _ _ c.marks.invariant c.clear_at.ensures)

pub returns : goal.returns
returns c =
    subst (λ (ms : List ℕ). ClearsMarked ms c.args.places.now.items c.marks.places.items)
    (take_all c.marks.mark-index c.args.marks.now c.marks-test.false) c.marks.invariant
