-- The durations in the steps of a table that is read are numbers of 32 bits.
use Rattle.std.proofs.Common.{◌≡◌, ℕ, ◌<◌, List, [], ◌∷◌, Option, Some, None, ok_or, Result, Ok, Err, refl, subst}
use Rattle.std.specs.List.{cons_option}
use Rattle.std.specs.Result.{result_ok}
use Rattle.wire_bytes.specs.Outcome.{◌>>=◌, ◌>>◌}
use Rattle.wire_bytes.proofs.OutcomeLemmas.{bind_ok, done, ok_is}
use Rattle.cosem_axdr.specs.Forms.{array_of}
use Rattle.cosem_axdr.specs.declared.value.Data.{Data}
use Rattle.script_steps.specs.Ranges.{IsStepInRange, AreStepsInRange, AreScriptsInRange}
use Rattle.script_steps.specs.Forms.{step_parts_of}
use Rattle.disconnect_control.specs.Attributes.{mode_form}
use Rattle.script_steps.specs.Addresses.{action_at}
use Rattle.cosem_names.specs.WriteFault.{values}
use Rattle.limiter_attributes.proofs.Again.{number_small}
use Rattle.limiter_attributes.specs.Reading.{number_of, profile_of}
use Rattle.script_steps.specs.Reading.{method_parameter_of, step_with, step_of, judged_script, script_of, judged_scripts, table_of}
use Rattle.script_steps.specs.declared.action.Action.{Action}
use Rattle.script_steps.specs.declared.action.Action.TheVariants as action
use Rattle.cosem_names.specs.declared.write_fault.WriteFault.{WriteFault}
use Rattle.cosem_names.specs.declared.write_fault.WriteFault.TheVariants.{Unmatched, Value}
use Rattle.script_steps.specs.declared.step.Script.{Script}
use Rattle.script_steps.specs.declared.step.Step.{Step}
use Rattle.script_steps.specs.declared.step.Step.TheVariants as step

-- a number that becomes a duration
seconds_of : (parameter : Data) (make : ℕ → Step) (s : Step)
    → ((n : ℕ) → n < 4294967296 → IsStepInRange (make n))
    → (number_of parameter >>= λ n. done WriteFault (make n)) ≡ Ok s → IsStepInRange s
seconds_of parameter make s small e =
    let found = bind_ok (number_of parameter) (λ n. done WriteFault (make n)) s e in
    subst IsStepInRange (ok_is {F = WriteFault} (make found.0) s found.2)
    (small found.0 (number_small parameter found.0 found.1))

-- a number or a profile that becomes no duration
no_seconds : {A : Type 0} (read : Result A WriteFault) (make : A → Step) (s : Step)
    → ((x : A) → IsStepInRange (make x))
    → (read >>= λ x. done WriteFault (make x)) ≡ Ok s → IsStepInRange s
no_seconds read make s none e =
    let found = bind_ok read (λ x. done WriteFault (make x)) s e in
    subst IsStepInRange (ok_is {F = WriteFault} (make found.0) s found.2) (none found.0)

with_in_range : (a : Action) (parameter : Data) (s : Step) → step_with a parameter ≡ Ok s
    → IsStepInRange s
unfolding step_with
with_in_range action.Mode parameter s e = no_seconds (mode_form parameter)
    (λ mode. step.WriteMode mode) s (λ mode. tt) e
with_in_range (action.Normal which) parameter s e =
    no_seconds (number_of parameter) (λ n. step.WriteNormal which n) s (λ n. tt) e
with_in_range (action.Emergency which) parameter s e =
    no_seconds (number_of parameter) (λ n. step.WriteEmergency which n) s (λ n. tt) e
with_in_range (action.MinOver which) parameter s e =
    seconds_of parameter (λ n. step.WriteMinOver which n) s (λ n small. small) e
with_in_range (action.MinUnder which) parameter s e =
    seconds_of parameter (λ n. step.WriteMinUnder which n) s (λ n small. small) e
with_in_range (action.Profile which) parameter s e =
    no_seconds (profile_of parameter) (λ p. step.WriteProfile which p) s (λ p. tt) e
with_in_range action.Disconnect parameter s e =
    no_seconds (method_parameter_of parameter) (λ u. step.Disconnect) s (λ u. tt) e
with_in_range action.Reconnect parameter s e =
    no_seconds (method_parameter_of parameter) (λ u. step.Reconnect) s (λ u. tt) e

step_in_range : (value : Data) (s : Step) → step_of value ≡ Ok s → IsStepInRange s
unfolding step_of
step_in_range value s e =
    let parts = bind_ok (ok_or (step_parts_of value) Unmatched) (λ p. ok_or (action_at p.0) Value
    >>= λ a. step_with a p.1) s e in
    let acts = bind_ok (ok_or (action_at parts.0.0) Value) (λ a. step_with a parts.0.1) s parts.2 in
    with_in_range acts.0 parts.0.1 s acts.2

-- the steps of several, those with a fault left out
one_step : (r : Result Step WriteFault) (others : List Step)
    → ((s : Step) → r ≡ Ok s → IsStepInRange s) → AreStepsInRange others
    → AreStepsInRange (cons_option (result_ok r) others)
one_step (Ok s) others first rest = (first s refl, rest)
one_step (Err fault) others first rest = rest

steps_in_range : (items : List Data) → AreStepsInRange (values step_of items)
steps_in_range [] = tt
steps_in_range (item ∷ items) = one_step (step_of item) (values step_of items)
    (λ s e. step_in_range item s e) (steps_in_range items)

-- ---- a script

script_in_range : (value : Data) (script : Script) → script_of value ≡ Ok script
    → AreStepsInRange script.steps
unfolding script_of
script_in_range value script e =
    let b = bind_ok (judged_script value) (λ parts. done WriteFault
    (record { identifier = parts.0; steps = values step_of parts.1 })) script e in
    let same = ok_is {F = WriteFault} (record { identifier = b.0.0; steps = values step_of b.0.1 })
    script b.2 in
    subst (λ (s : Script). AreStepsInRange s.steps) same (steps_in_range b.0.1)

one_script : (r : Result Script WriteFault) (others : List Script)
    → ((s : Script) → r ≡ Ok s → AreStepsInRange s.steps) → AreScriptsInRange others
    → AreScriptsInRange (cons_option (result_ok r) others)
one_script (Ok s) others first rest = (first s refl, rest)
one_script (Err fault) others first rest = rest

scripts_in_range : (items : List Data) → AreScriptsInRange (values script_of items)
scripts_in_range [] = tt
scripts_in_range (item ∷ items) = one_script (script_of item) (values script_of items)
    (λ s e. script_in_range item s e) (scripts_in_range items)

-- the scripts of a table that is read
pub table_in_range : (value : Data) (scripts : List Script) → table_of value ≡ Ok scripts
    → AreScriptsInRange scripts
unfolding table_of
table_in_range value scripts e =
    let items = bind_ok (ok_or (array_of value) Unmatched)
    (λ items. judged_scripts items >> done WriteFault (values script_of items)) scripts e in
    let judged = bind_ok (judged_scripts items.0) (λ _. done WriteFault (values script_of items.0))
    scripts items.2 in
    subst AreScriptsInRange (ok_is {F = WriteFault} (values script_of items.0) scripts judged.2)
    (scripts_in_range items.0)
