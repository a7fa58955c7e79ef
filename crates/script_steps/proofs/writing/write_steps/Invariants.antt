use Rattle.std.proofs.Common.{◌≡◌, map, take}
use Rattle.script_steps.specs.Writing.{step_data}
use Rattle.script_steps.proofs.writing.write_steps.Given as goal

abbrev pub invariant-loop-step : goal.invariant-loop-step
invariant-loop-step l = l.items.items ≡ map step_data (take l.step-index l.steps)
