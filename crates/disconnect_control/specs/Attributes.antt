-- The attributes of the switch after its logical name: their numbers, and their values as Data when
-- read and written (IEC 62056-6-2, class 70).
use Rattle.std.specs.Prelude.{ℕ, Option, Some, None, ok_or, Result, Ok, Err, ◌==◌, if◌then◌else◌}
use Rattle.wire_bytes.specs.Outcome.{◌>>=◌}
use Rattle.cosem_axdr.specs.Forms.{enumerated_of}
use Rattle.cosem_axdr.specs.declared.value.Data.{Data}
use Rattle.cosem_axdr.specs.declared.value.Data.TheVariants.{Boolean, Enum}
use Rattle.cosem_names.specs.declared.write_fault.WriteFault.{WriteFault}
use Rattle.cosem_names.specs.declared.write_fault.WriteFault.TheVariants.{Unmatched, Value}
use Rattle.disconnect_control.specs.Control.{Control}
use Rattle.disconnect_control.specs.Transitions.{is_state, mode_number, mode_of, state_number}
use Rattle.disconnect_control.specs.declared.attribute.ControlAttribute.{ControlAttribute}
use Rattle.disconnect_control.specs.declared.attribute.ControlAttribute.TheVariants as attribute
use Rattle.disconnect_control.specs.declared.state.ControlMode.{ControlMode}
use Rattle.disconnect_control.specs.declared.state.ControlState.TheVariants.{Connected}

-- the attribute of a number: 2 output_state, 3 control_state, 4 control_mode
abbrev pub attribute_numbered : ℕ → Option ControlAttribute
attribute_numbered number =
    if number == 2 then Some attribute.OutputState
    else if number == 3 then Some attribute.ControlState
    else if number == 4 then Some attribute.ControlMode
    else None

-- the value of an attribute when read: whether the supply is on, the state, the mode
abbrev pub data_at : ControlAttribute → Control → Data
data_at attribute.OutputState control = Boolean (is_state control.state Connected)
data_at attribute.ControlState control = Enum (state_number control.state)
data_at attribute.ControlMode control = Enum (mode_number control.mode)

-- the mode that a written control_mode is: an enum, 0 to 6
unfoldable pub mode_form : Data → Result ControlMode WriteFault
mode_form value = ok_or (enumerated_of value) Unmatched >>= λ number. ok_or (mode_of number) Value
