-- The durations in the steps of scripts have 32 bits.
use Rattle.std.specs.Prelude.{◌<◌, List, [], ◌∷◌}
use Rattle.script_steps.specs.declared.step.Script.{Script}
use Rattle.script_steps.specs.declared.step.Step.{Step}
use Rattle.script_steps.specs.declared.step.Step.TheVariants.{WriteMinOver, WriteMinUnder}

-- whether a step that writes a duration writes one that fits in 32 bits, in seconds; every other
-- step is in range
abbrev pub IsStepInRange : Step → Type 0
IsStepInRange (WriteMinOver which seconds) = seconds < 4294967296
IsStepInRange (WriteMinUnder which seconds) = seconds < 4294967296
IsStepInRange _ = Unit {0}

-- whether all durations that these steps write fit in 32 bits
abbrev pub AreStepsInRange : List Step → Type 0
AreStepsInRange [] = Unit {0}
AreStepsInRange (step ∷ steps) = IsStepInRange step × AreStepsInRange steps

-- whether all durations that the steps of these scripts write fit in 32 bits
abbrev pub AreScriptsInRange : List Script → Type 0
AreScriptsInRange [] = Unit {0}
AreScriptsInRange (script ∷ scripts) = AreStepsInRange script.steps × AreScriptsInRange scripts
