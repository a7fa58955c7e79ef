use Rattle.std.proofs.Common.{refl, ◌∙◌}
use Rattle.fleet_links.proofs.Turning.{turns_none, turns_more, stopped_waits, stopped_over}
use Rattle.fleet_links.proofs.link.FleetLink.turn.Goals as goal

pub steps-init : goal.steps-init
steps-init g c = record {
  number = refl;
  input = refl;
  frame = refl;
  turns = turns_none _ _ _ c.requires.is_open;
}

pub returns-in-Waits-clause-turns : goal.returns-in-Waits-clause-turns
returns-in-Waits-clause-turns g c = stopped_waits _ _ _ _ _ _ (turns_more _ _ _ _ _ _ _ _ _
    c.steps.invariant.number c.steps.invariant.frame c.steps.invariant.turns
    c.in-Waits.ensures.turns)

pub returns-in-Over-clause-turns : goal.returns-in-Over-clause-turns
returns-in-Over-clause-turns g c = stopped_over _ _ _ _ _ _ _ (turns_more _ _ _ _ _ _ _ _ _
    c.steps.invariant.number c.steps.invariant.frame c.steps.invariant.turns
    c.in-Over.ensures.turns)

pub steps-preserved : goal.steps-preserved
steps-preserved g c = record {
  number = c.in-Again.ensures.number ∙ c.steps.invariant.number;
  input = c.step.auto.input ∙ c.steps.invariant.input;
  frame = c.step.auto.frame ∙ c.steps.invariant.frame;
  turns = turns_more _ _ _ _ _ _ _ _ _ c.steps.invariant.number c.steps.invariant.frame
      c.steps.invariant.turns c.in-Again.ensures.turns;
}
