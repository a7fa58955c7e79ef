use Rattle.std.proofs.Common.{sym, ap, ◌∙◌, arith}
use Rattle.client_core.specs.declared.job.Job.{Job}
use Rattle.campaign_board.proofs.BuildingLemmas.{map_none, map_inserted, map_passed, all_before}
use Rattle.campaign_board.proofs.building.find_before.Goals as goal
use Rattle.campaign_board.proofs.building.find_before.Goals.{in-NotSent+in_ok-earlier-in-NotSent, in_default}

pub loop-at-init : goal.loop-at-init
loop-at-init c = map_none c.args.jobs.now c.args.found.now c.in_ok-before.before.items
    c.new-last.result c.in_ok-before.ensures.items c.new-last.ensures.empty

pub loop-at-preserved : goal.loop-at-preserved
loop-at-preserved c = rw c.in_ok-push.ensures.items (elim c.match-entry_of.branch [
  | in-NotSent+in_ok-earlier-in-NotSent w ↦ rw (w.last-is, w.earlier-is)
      (map_inserted c.args.jobs.now c.args.found.now c.loop-at.at c.loop-at.before.items
      c.loop-at.last w.insert.new.self c.index-jobs-at.result c.as_slice-address.result.now
      w.in_ok-earlier-in-NotSent.earlier c.loop-at-test.true c.index-jobs-at.is
      (sym c.entry_of.ensures ∙ w.in-NotSent.is)
      (c.as_slice-address.ensures ∙ ap (λ (j : Job). j.address) (sym c.index-jobs-at.is))
      w.in_ok-earlier-in-NotSent.ensures.old w.in_ok-earlier-in-NotSent.ensures.updates
      c.loop-at.invariant)
  | in_default w ↦ rw w.last-is
      (map_passed c.args.jobs.now c.args.found.now c.loop-at.at c.loop-at.before.items
      c.loop-at.last c.index-jobs-at.result c.as_slice-address.result.now c.match-entry_of.earlier
      c.loop-at-test.true c.index-jobs-at.is
      (λ fresh. w.in_default.not-NotSent (c.entry_of.ensures ∙ fresh))
      (c.as_slice-address.ensures ∙ ap (λ (j : Job). j.address) (sym c.index-jobs-at.is))
      (w.earlier-is ∙ w.copied-earlier.ensures ∙ w.get.ensures.value) c.loop-at.invariant)
])

pub returns : goal.returns
returns c = all_before c.args.jobs.now c.args.found.now c.loop-at.at c.loop-at.before.items _
    (omega arith) c.loop-at.invariant
