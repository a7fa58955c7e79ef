use Rattle.std.proofs.Common.{◌≡◌, length}
use Rattle.relay_core.proofs.ScriptLemmas.{Underway}
use Rattle.relay_core.proofs.relay.RelayCore.run_steps.Given as goal
use Rattle.script_steps.specs.Table.{running_steps}

abbrev pub invariant-steps : goal.invariant-steps
invariant-steps l = record {
  counted : l.count ≡ length (running_steps l.selector l.self.scripts);
  underway : Underway l.initial.self l.self l.origin l.selector l.i;
}
