-- The switch after a trigger and after a write of its mode, with the result code of the write (IEC
-- 62056-6-2, class 70).
use Rattle.std.specs.Prelude.{◌≡◌, Bool, ◌==◌, ◌&&◌, ◌||◌, not, if◌then◌else◌}
use Rattle.cosem_names.specs.declared.result_code.ResultCode.{ResultCode}
use Rattle.cosem_names.specs.declared.result_code.ResultCode.TheVariants.{Success, TemporaryFailure}
use Rattle.disconnect_control.specs.declared.state.ControlState.{ControlState}
use Rattle.disconnect_control.specs.declared.state.ControlState.TheVariants.{Connected}
use Rattle.disconnect_control.specs.declared.state.ControlMode.{ControlMode}
use Rattle.disconnect_control.specs.declared.state.Trigger.{Trigger}
use Rattle.disconnect_control.specs.Transitions.{is_state, mode_number, control_state_after}

-- the switch as its clients see it: attributes 3 and 4 (IEC 62056-6-2, class 70, control_state and
-- control_mode)
pub record Control : Type 0 where
  pub state : ControlState
  pub mode : ControlMode

-- the switch after a trigger: its mode does not change
abbrev pub control_after : Trigger → Control → Control
control_after trigger control =
    record { state = control_state_after control.mode trigger control.state; mode = control.mode }

-- whether a mode may be written: in mode 0 the switch is always connected (IEC 62056-6-2, class 70,
-- control_mode), so mode 0 is accepted only in Connected
unfoldable pub is_mode_fit : ControlMode → ControlState → Bool
is_mode_fit mode state = not (mode_number mode == 0) || is_state state Connected

-- the switch after a write of its mode
unfoldable pub with_mode : ControlMode → Control → Control
with_mode mode control = if is_mode_fit mode control.state
    then record { state = control.state; mode = mode } else control

-- the result of a write of control_mode: success if the mode is allowed in the present state
unfoldable pub mode_result : ControlMode → Control → ResultCode
mode_result mode control = if is_mode_fit mode control.state then Success else TemporaryFailure
