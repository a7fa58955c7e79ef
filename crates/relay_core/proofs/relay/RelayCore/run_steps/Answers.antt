use Rattle.std.proofs.Common.{List, ◌≡◌, length, arith, subst, sym, ◌∙◌}
use Rattle.script_steps.specs.declared.step.Script.{Script}
use Rattle.script_steps.specs.Table.{running_steps}
use Rattle.relay_core.proofs.ScriptLemmas.{not_success, further, stopped, finished}
use Rattle.relay_core.proofs.relay.RelayCore.run_steps.Goals as goal

pub returns-in_default : goal.returns-in_default
returns-in_default c =
    let under = c.steps.invariant.underway in
    let ended = stopped c.args.self.now c.steps.self c.act.new.self c.args.origin c.args.selector
    c.steps.i c.step-step.result c.act.result
    c.step-step.ensures.rest c.act.ensures.world c.act.ensures.code
    (not_success c.act.result c.in_default.not-Success) under in
    record {
      world = ended.world;
      code = ended.code;
      scripts = c.act.ensures.scripts
          ∙ under.scripts;
      schedules = c.act.ensures.schedules ∙ under.schedules;
    }

pub steps-preserved : goal.steps-preserved
steps-preserved c =
    let under = c.steps.invariant.underway in
    let counted : List Script → Type 0 = λ scripts. c.args.count
    ≡ length (running_steps c.args.selector scripts) in
    record {
      counted = subst counted (sym c.act.ensures.scripts) c.steps.invariant.counted;
      underway = further c.args.self.now c.steps.self c.act.new.self c.args.origin c.args.selector
          c.steps.i c.step-step.result
          c.step-step.ensures.rest c.in-Success.ensures.world c.in-Success.ensures.code
          c.act.ensures.scripts c.act.ensures.schedules under;
    }

pub returns-clause-world : goal.returns-clause-world
returns-clause-world c =
    let counted : length (running_steps c.args.selector c.steps.self.scripts) ≡ c.steps.i =
    omega arith in
    (finished c.args.self.now c.steps.self c.args.origin c.args.selector c.steps.i counted
    c.steps.invariant.underway).world

pub returns-clause-code : goal.returns-clause-code
returns-clause-code c =
    let counted : length (running_steps c.args.selector c.steps.self.scripts) ≡ c.steps.i =
    omega arith in
    (finished c.args.self.now c.steps.self c.args.origin c.args.selector c.steps.i counted
    c.steps.invariant.underway).code
