use Rattle.script_steps.specs.Reading.{script_of}
use Rattle.script_steps.specs.Table.{IsScript}
use Rattle.cosem_names.proofs.SeveralRead.{HasRead}
use Rattle.script_steps.proofs.reading.read_scripts.Given as goal

abbrev pub invariant-loop-item : goal.invariant-loop-item
invariant-loop-item l = HasRead script_of IsScript l.items l.item-index l.scripts.items
