-- The durations in the steps of a script table are numbers of 32 bits.
use Rattle.std.proofs.Common.{List}
use Rattle.relay_core.proofs.OpeningLemmas.{table_in_range}
use Rattle.script_steps.specs.Ranges.{AreScriptsInRange}
use Rattle.script_steps.specs.Table.{IsTable}
use Rattle.script_steps.specs.declared.step.Script.{Script}

pub scripts_in_range : (scripts : List Script) → IsTable scripts → AreScriptsInRange scripts
scripts_in_range = table_in_range
