-- A script table as its callers see it: a list of scripts, each found by its identifier.
use Rattle.std.specs.Prelude.{◌≡◌, ℕ, ◌<◌, ◌≤◌, ◌^◌, true, ◌==◌, List, [], length, find, Option, Some, option_map, unwrap_or, if◌then◌else◌}
use Rattle.std.specs.List.{All}
use Rattle.cosem_datetime.specs.Fields.{IsDateTimeFields}
use Rattle.script_steps.specs.Reading.{max_scripts, max_steps, are_distinct}
use Rattle.script_steps.specs.declared.step.Script.{Script}
use Rattle.script_steps.specs.declared.step.Step.{Step}
use Rattle.script_steps.specs.declared.step.Step.TheVariants.{WriteNormal, WriteEmergency, WriteMinOver, WriteMinUnder, WriteProfile}

-- whether the thresholds and durations are numbers of 32 bits, and a profile's start has fields in
-- their ranges
abbrev pub IsStep : Step → Type 0
IsStep (WriteNormal which watts) = watts < 2 ^ 32
IsStep (WriteEmergency which watts) = watts < 2 ^ 32
IsStep (WriteMinOver which seconds) = seconds < 2 ^ 32
IsStep (WriteMinUnder which seconds) = seconds < 2 ^ 32
IsStep (WriteProfile which profile) = IsDateTimeFields profile.start
IsStep _ = Unit {0}

-- whether a script can be in a script table: its identifier is not 0, and it has at most eight
-- steps with numbers in their ranges
pub record IsScript (script : Script) : Type 0 where
  pub named : 0 < script.identifier
  pub few : length script.steps ≤ max_steps
  pub fit : All IsStep script.steps

-- whether scripts can be a script table: at most sixteen, with different identifiers
pub record IsTable (scripts : List Script) : Type 0 where
  pub few : length scripts ≤ max_scripts
  pub distinct : are_distinct (λ script. script.identifier) scripts ≡ true
  pub fit : All IsScript scripts

-- the selector of the null script, which has no steps (IEC 62056-6-2, class 9)
abbrev pub null_script : ℕ
null_script = 0

-- the script with this identifier
abbrev pub script_at : ℕ → List Script → Option Script
script_at identifier scripts = find (λ script. script.identifier == identifier) scripts

-- the steps of the script that a selector selects; every table has the null script
unfoldable pub steps_at : ℕ → List Script → Option (List Step)
steps_at selector scripts =
    if selector == null_script then Some []
    else option_map (λ script. script.steps) (script_at selector scripts)

-- the steps that run when a selector is executed: none if there is no such script
abbrev pub running_steps : ℕ → List Script → List Step
running_steps selector scripts = unwrap_or (steps_at selector scripts) []
