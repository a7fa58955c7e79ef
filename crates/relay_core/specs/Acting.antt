-- The effect of a client's ACTION on the switch or the script table, and of a press of the button
-- (IEC 62056-5-3).
use Rattle.std.specs.Prelude.{ℕ, false, List, option_and_then, Option, Some, None, Result, Ok, Err, ◌==◌, if◌then◌else◌}
use Rattle.cosem_axdr.specs.declared.value.Data.{Data}
use Rattle.cosem_axdr.specs.Forms.{long_unsigned_of}
use Rattle.cosem_names.specs.declared.name.MethodRef.{MethodRef}
use Rattle.cosem_names.specs.declared.level.Level.{Level}
use Rattle.cosem_names.specs.declared.objects.Instance.{Instance}
use Rattle.cosem_names.specs.declared.objects.Instance.TheVariants.{Association, DeviceName, Register, ScriptTable, Schedule, DisconnectControl, Limiter}
use Rattle.cosem_names.specs.declared.result_code.ResultCode.{ResultCode}
use Rattle.cosem_names.specs.declared.result_code.ResultCode.TheVariants.{ReadWriteDenied, TypeUnmatched, OtherReason}
use Rattle.cosem_names.specs.Objects.{may_execute_of}
use Rattle.disconnect_control.specs.declared.state.ControlState.TheVariants.{Connected}
use Rattle.disconnect_control.specs.declared.state.Trigger.{Trigger}
use Rattle.disconnect_control.specs.declared.state.Trigger.TheVariants.{RemoteDisconnect, RemoteReconnect, ManualDisconnect, ManualReconnect}
use Rattle.disconnect_control.specs.Transitions.{is_state}
use Rattle.relay_core.specs.Access.{target_of}
use Rattle.relay_core.specs.declared.scripts.Origin.TheVariants.{Remote}
use Rattle.relay_core.specs.Scripts.{at_script}
use Rattle.relay_core.specs.Switch.{at_trigger}
use Rattle.relay_core.specs.World.{World, Outcome}
use Rattle.script_steps.specs.declared.step.Step.{Step}
use Rattle.script_steps.specs.Table.{steps_at}

-- the trigger of a method of the switch (IEC 62056-6-2, class 70, remote_disconnect and
-- remote_reconnect), if it has that number
unfoldable pub switch_trigger : ℕ → Option Trigger
switch_trigger number = if number == 1 then Some RemoteDisconnect else if number == 2
    then Some RemoteReconnect else None

-- the effect of a trigger, or ReadWriteDenied without one
abbrev pub at_optional_trigger : Option Trigger → World → Outcome
at_optional_trigger None w = record { world = w; code = ReadWriteDenied }
at_optional_trigger (Some trigger) w = at_trigger trigger w

-- the effect of the script that a client selects, or OtherReason if no script has the selector
abbrev pub at_optional_script : Option (List Step) → World → Outcome
at_optional_script None w = record { world = w; code = OtherReason }
at_optional_script (Some steps) w = at_script Remote steps w

-- the effect of executing a selector, or TypeUnmatched if the parameter had another type
abbrev pub at_optional_selector : Option ℕ → World → Outcome
at_optional_selector None w = record { world = w; code = TypeUnmatched }
at_optional_selector (Some selector) w = at_optional_script (steps_at selector w.scripts) w

-- the effect of the script table's execute; its parameter is a long-unsigned, the selector (IEC
-- 62056-6-2, class 9, execute)
unfoldable pub at_execution : Option Data → World → Outcome
at_execution parameter w = at_optional_selector (option_and_then long_unsigned_of parameter) w

-- the effect of an object's method; the switch's methods ignore their parameter
unfoldable pub at_method : Instance → ℕ → Option Data → World → Outcome
at_method Association number parameter w = record { world = w; code = ReadWriteDenied }
at_method DeviceName number parameter w = record { world = w; code = ReadWriteDenied }
at_method (Register which) number parameter w = record { world = w; code = ReadWriteDenied }
at_method ScriptTable number parameter w = if number == 1 then at_execution parameter w
    else record { world = w; code = ReadWriteDenied }
at_method (Schedule which) number parameter w = record { world = w; code = ReadWriteDenied }
at_method DisconnectControl number parameter w = at_optional_trigger (switch_trigger number) w
at_method (Limiter which) number parameter w = record { world = w; code = ReadWriteDenied }

-- the effect of a method, or the refusal if the object was not reached
abbrev pub execute_at : Result Instance ResultCode → ℕ → Option Data → World → Outcome
execute_at (Err refusal) number parameter w = record { world = w; code = refusal }
execute_at (Ok instance) number parameter w = at_method instance number parameter w

-- the effect of a client's ACTION
unfoldable pub at_execute : Level → MethodRef → Option Data → World → Outcome
at_execute level method parameter w =
    execute_at (target_of method.name method.class (may_execute_of level method) false)
    method.number parameter w

-- the effect of a press of the button, as a manual trigger: it disconnects a connected switch and
-- reconnects any other (IEC 62056-6-2, class 70, states and transitions)
unfoldable pub at_button : World → Outcome
at_button w = at_trigger (if is_state w.control.state Connected then ManualDisconnect
    else ManualReconnect) w
