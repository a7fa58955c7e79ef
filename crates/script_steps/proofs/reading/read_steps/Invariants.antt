use Rattle.script_steps.specs.Reading.{step_of}
use Rattle.script_steps.specs.Table.{IsStep}
use Rattle.cosem_names.proofs.SeveralRead.{HasRead}
use Rattle.script_steps.proofs.reading.read_steps.Given as goal

abbrev pub invariant-loop-item : goal.invariant-loop-item
invariant-loop-item l = HasRead step_of IsStep l.items l.item-index l.steps.items
