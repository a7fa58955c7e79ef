use Rattle.std.proofs.Common.{◌≡◌, map, take}
use Rattle.script_steps.specs.Writing.{script_data}
use Rattle.script_steps.proofs.writing.write_scripts.Given as goal

abbrev pub invariant-loop-script : goal.invariant-loop-script
invariant-loop-script l = l.items.items ≡ map script_data (take l.script-index l.scripts)
