use Rattle.std.proofs.Common.{◌≡◌, ℕ, suc, List, [], ◌∷◌, Option, arith, refl, ap, sym, ◌∙◌}
use Rattle.std.specs.List.{All}
use Rattle.disconnect_control.specs.Control.{Control}
use Rattle.limiter_core.specs.declared.settings.Settings.{Settings}
use Rattle.limiter_core.specs.Opening.{opened_rows}
use Rattle.limiter_core.specs.State.{State, IsFit}
use Rattle.limiter_core.proofs.Opening.{opened as rows_opened}
use Rattle.relay_core.specs.declared.relay.RelayCore.{RelayCore}
use Rattle.relay_core.specs.declared.schedules.Schedules.{Schedules}
use Rattle.relay_core.specs.Agreeing.{AreCountedAlike, Agree}
use Rattle.script_steps.specs.Ranges.{IsStepInRange, AreStepsInRange, AreScriptsInRange}
use Rattle.relay_core.specs.Opening.{limiter_opening_of, opening_of, opened_limiter, world_of_opening}
use Rattle.relay_core.specs.Stands.{StandsFor, LimiterStateStands}
use Rattle.relay_core.specs.World.{World, LimiterState}
use Rattle.script_steps.specs.declared.step.Script.{Script}
use Rattle.script_steps.specs.declared.step.Step.{Step}
use Rattle.script_steps.specs.declared.step.Step.TheVariants as step
use Rattle.script_steps.specs.Table.{IsStep, IsScript, IsTable}

-- a limiter restored from its opening represents the same limiter, with the rows of the original
limiter_state_back : (limiter : State) (now : Option ℕ) (m : LimiterState)
    → LimiterStateStands limiter now m
    → m ≡ record (opened_limiter (limiter_opening_of limiter)) { rows = m.rows }
limiter_state_back limiter now m stands =
    let with : Settings → ℕ → LimiterState = λ settings last. record {
      settings = settings;
      last = last;
      rows = m.rows;
    } in
    ap (λ (settings : Settings). with settings m.last) (sym stands.settings)
    ∙ ap (with limiter.settings) (sym stands.last)

-- the rows of an opened limiter are counted like the rows of the limiter that was saved
counted_back : (limiter : State) (now : Option ℕ) (m : LimiterState)
    → IsFit limiter.last limiter.over limiter.under → LimiterStateStands limiter now m
    → AreCountedAlike (opened_rows limiter.last limiter.over limiter.under) m.rows
counted_back limiter now m fit stands =
    let keeps = rows_opened limiter fit in
    record { over = sym keeps.over ∙ stands.rows.over; under = sym keeps.under ∙ stands.rows.under }

-- a limiter represents the one that its opening gives at the limiter's moment
back_stands : (limiter : State) (now : Option ℕ) → IsFit limiter.last limiter.over limiter.under
    → limiter.moment ≡ now
    → LimiterStateStands limiter now (opened_limiter (limiter_opening_of limiter))
back_stands limiter now fit clock = record {
  settings = refl;
  moment = clock;
  last = refl;
  rows = rows_opened limiter fit;
}

-- a core represents the world that its opening gives
pub opening_stands : (core : RelayCore) → IsFit core.import.last core.import.over core.import.under
    → IsFit core.export.last core.export.over core.export.under
    → StandsFor core (world_of_opening (opening_of core))
opening_stands core import_fit export_fit = record {
  device = refl;
  control = refl;
  import = back_stands core.import core.import.moment import_fit refl;
  export = back_stands core.export core.import.moment export_fit core.one_clock;
  scripts = refl;
  schedules = refl;
}

-- the world that a core's opening gives agrees with every world that the core represents
pub opening_agrees : (core : RelayCore) (w : World)
    → IsFit core.import.last core.import.over core.import.under
    → IsFit core.export.last core.export.over core.export.under → StandsFor core w
    → Agree (world_of_opening (opening_of core)) w
opening_agrees core w import_fit export_fit stands =
    let make : List ℕ → Control → Option ℕ → LimiterState → LimiterState → List Script → Schedules
    → World =
    λ device control moment import export scripts schedules.
    record {
      device = device;
      control = control;
      moment = moment;
      import = import;
      export = export;
      scripts = scripts;
      schedules = schedules;
    } in
    let now = core.import.moment in
    let import : LimiterState = record (opened_limiter (limiter_opening_of core.import))
    { rows = w.import.rows } in
    let export : LimiterState = record (opened_limiter (limiter_opening_of core.export))
    { rows = w.export.rows } in
    record {
      same =
          ap (λ (x : List ℕ). make x w.control w.moment w.import w.export w.scripts w.schedules)
          (sym stands.device)
          ∙ ap (λ (x : Control). make core.device x w.moment w.import w.export w.scripts
          w.schedules) (sym stands.control)
          ∙ ap (λ (x : Option ℕ). make core.device core.control x w.import w.export w.scripts
          w.schedules) (sym stands.import.moment)
          ∙ ap (λ (x : LimiterState). make core.device core.control now x w.export w.scripts
          w.schedules)
          (limiter_state_back core.import w.moment w.import stands.import)
          ∙ ap (λ (x : LimiterState). make core.device core.control now import x w.scripts
          w.schedules)
          (limiter_state_back core.export w.moment w.export stands.export)
          ∙ ap (λ (x : List Script). make core.device core.control now import export x w.schedules)
          (sym stands.scripts)
          ∙ ap (λ (x : Schedules). make core.device core.control now import export core.scripts x)
          (sym stands.schedules);
      import = counted_back core.import w.moment w.import import_fit stands.import;
      export = counted_back core.export w.moment w.export export_fit stands.export;
    }

-- the durations in the steps of every script table fit in 32 bits
step_in_range : (one : Step) → IsStep one → IsStepInRange one
step_in_range (step.WriteMode mode) fits = tt
step_in_range (step.WriteNormal which watts) fits = tt
step_in_range (step.WriteEmergency which watts) fits = tt
step_in_range (step.WriteMinOver which seconds) fits = fits
step_in_range (step.WriteMinUnder which seconds) fits = fits
step_in_range (step.WriteProfile which profile) fits = tt
step_in_range step.Disconnect fits = tt
step_in_range step.Reconnect fits = tt

steps_in_range : (steps : List Step) → All IsStep steps → AreStepsInRange steps
steps_in_range [] fits = tt
steps_in_range (one ∷ steps) fits = (
  step_in_range one (fits 0 one (omega arith)),
  steps_in_range steps (λ k d less. fits (suc k) d (omega (arith, less))),
)

scripts_in_range : (scripts : List Script) → All IsScript scripts → AreScriptsInRange scripts
scripts_in_range [] fits = tt
scripts_in_range (script ∷ scripts) fits =
    let first : IsScript script = fits 0 script (omega arith) in (
      steps_in_range script.steps first.fit,
      scripts_in_range scripts
          (λ k d less. fits (suc k) d (omega (arith, less))),
    )

pub table_in_range : (scripts : List Script) → IsTable scripts → AreScriptsInRange scripts
table_in_range scripts table = scripts_in_range scripts table.fit
