use Rattle.std.proofs.Common.{refl, arith}
use Rattle.cosem_names.proofs.Judged.{HasJudged-more, HasJudged-all}
use Rattle.cosem_names.proofs.judging.judge_each.Goals as goal

pub loop-item-init : goal.loop-item-init
loop-item-init g c of_item is = record { typed = refl; faults = refl }

pub loop-item-preserved : goal.loop-item-preserved
loop-item-preserved g c of_item is =
    let read_as = is _ c.read-given.result (record {
      shown = _;
      shows = refl;
      says = record { met = c.read-given.ensures };
    }) in
    rw c.is_unmatched-unmatched.ensures
    (rw c.is_err-faulty.ensures.value
    (HasJudged-more (c.loop-item.invariant of_item is) c.item-item.result c.read-given.result
    (omega arith) c.item-item.is read_as))

pub returns-then-unmatched-clause-fault : goal.returns-then-unmatched-clause-fault
returns-then-unmatched-clause-fault g c of_item is =
    HasJudged-all (c.loop-item.invariant of_item is) (omega arith) _ (rw c.if-unmatched.true refl)

pub returns-then-faulty-clause-fault : goal.returns-then-faulty-clause-fault
returns-then-faulty-clause-fault g c of_item is = HasJudged-all (c.loop-item.invariant of_item is)
    (omega arith) _ (rw c.if-unmatched.false (rw c.if-faulty.true refl))

pub returns-clause-fault : goal.returns-clause-fault
returns-clause-fault g c of_item is = HasJudged-all (c.loop-item.invariant of_item is)
    (omega arith) _ (rw c.if-unmatched.false (rw c.if-faulty.false refl))
