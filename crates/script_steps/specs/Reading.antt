-- What a client writes to the script table (IEC 62056-6-2, class 9, scripts): its scripts, or why
-- it is refused. A wrong type anywhere is reported before any wrong value: that order is a rule of
-- this meter.
use Rattle.std.specs.Prelude.{ℕ, Bool, true, not, ◌&&◌, ◌==◌, nat_le, List, [], ◌∷◌, length, ok_or, Result, Ok, Err}
use Rattle.std.specs.List.{list_any}
use Rattle.wire_bytes.specs.Outcome.{◌>>=◌, ◌>>◌, guard}
use Rattle.cosem_axdr.specs.declared.value.Data.{Data}
use Rattle.cosem_axdr.specs.declared.value.Data.TheVariants.{Null, Integer}
use Rattle.cosem_axdr.specs.Forms.{array_of}
use Rattle.disconnect_control.specs.Attributes.{mode_form}
use Rattle.limiter_attributes.specs.Reading.{number_of, profile_of}
use Rattle.script_steps.specs.Addresses.{action_at}
use Rattle.script_steps.specs.Forms.{step_parts_of, script_parts_of, identifier_of}
use Rattle.script_steps.specs.declared.action.Action.{Action}
use Rattle.script_steps.specs.declared.action.Action.TheVariants as action
use Rattle.cosem_names.specs.WriteFault.{fault_of_items, values}
use Rattle.cosem_names.specs.declared.write_fault.WriteFault.{WriteFault}
use Rattle.cosem_names.specs.declared.write_fault.WriteFault.TheVariants.{Unmatched, Value}
use Rattle.script_steps.specs.declared.step.Script.{Script}
use Rattle.script_steps.specs.declared.step.Step.{Step}
use Rattle.script_steps.specs.declared.step.Step.TheVariants.{WriteMode, WriteNormal, WriteEmergency, WriteMinOver, WriteMinUnder, WriteProfile, Disconnect, Reconnect}

-- the maximum number of scripts of a table
abbrev pub max_scripts : ℕ
max_scripts = 16

-- the maximum number of steps of a script
abbrev pub max_steps : ℕ
max_steps = 8

-- the parameter of a method: null-data or an integer
abbrev pub method_parameter_of : Data → Result (Unit {0}) WriteFault
method_parameter_of Null = Ok tt
method_parameter_of (Integer n) = Ok tt
method_parameter_of _ = Err Unmatched

-- the step of an action, with its parameter
unfoldable pub step_with : Action → Data → Result Step WriteFault
step_with action.Mode parameter = mode_form parameter >>= λ mode. Ok (WriteMode mode)
step_with (action.Normal which) parameter =
    number_of parameter >>= λ watts. Ok (WriteNormal which watts)
step_with (action.Emergency which) parameter =
    number_of parameter >>= λ watts. Ok (WriteEmergency which watts)
step_with (action.MinOver which) parameter =
    number_of parameter >>= λ seconds. Ok (WriteMinOver which seconds)
step_with (action.MinUnder which) parameter =
    number_of parameter >>= λ seconds. Ok (WriteMinUnder which seconds)
step_with (action.Profile which) parameter =
    profile_of parameter >>= λ profile. Ok (WriteProfile which profile)
step_with action.Disconnect parameter = method_parameter_of parameter >>= λ _. Ok Disconnect
step_with action.Reconnect parameter = method_parameter_of parameter >>= λ _. Ok Reconnect

-- a step; if it is not listed, the type of its parameter is not judged
unfoldable pub step_of : Data → Result Step WriteFault
step_of value = do
  parts ← ok_or (step_parts_of value) Unmatched
  action ← ok_or (action_at parts.0) Value
  step_with action parts.1

-- a script's identifier and the Data of its steps, once these are judged
unfoldable pub judged_script : Data → Result (ℕ × List Data) WriteFault
judged_script value = do
  parts ← ok_or (script_parts_of value) Unmatched
  fault_of_items step_of parts.1
  guard (not (parts.0 == 0) && nat_le (length parts.1) max_steps) Value
  Ok parts

-- a script: its identifier is not 0, and it has at most eight steps
unfoldable pub script_of : Data → Result Script WriteFault
script_of value = do
  parts ← judged_script value
  Ok (record { identifier = parts.0; steps = values step_of parts.1 })

-- whether no two items have the same number
abbrev pub are_distinct : {A : Type 0} → (A → ℕ) → List A → Bool
are_distinct number [] = true
are_distinct number (x ∷ xs) =
    not (list_any (λ other. number other == number x) xs) && are_distinct number xs

-- the fault of a table's scripts: there are at most sixteen, with different identifiers
unfoldable pub judged_scripts : List Data → Result (Unit {0}) WriteFault
judged_scripts items = do
  fault_of_items script_of items
  guard (nat_le (length items) max_scripts && are_distinct identifier_of items) Value

-- the scripts of a script table, or the first fault
unfoldable pub table_of : Data → Result (List Script) WriteFault
table_of value = do
  items ← ok_or (array_of value) Unmatched
  judged_scripts items
  Ok (values script_of items)
