-- The effect of a script (IEC 62056-6-2, class 9, scripts): its steps in order, up to and including
-- the first that is refused.
use Rattle.std.specs.Prelude.{Bool, true, false, List, [], ◌∷◌, if◌then◌else◌}
use Rattle.cosem_names.specs.declared.result_code.ResultCode.{ResultCode}
use Rattle.cosem_names.specs.declared.result_code.ResultCode.TheVariants.{Success}
use Rattle.disconnect_control.specs.declared.state.Trigger.{Trigger}
use Rattle.disconnect_control.specs.declared.state.Trigger.TheVariants.{RemoteDisconnect, RemoteReconnect, LocalDisconnect, LocalReconnect}
use Rattle.limiter_attributes.specs.declared.setting.Setting.TheVariants.{ThresholdNormal, ThresholdEmergency, MinOverThresholdDuration, MinUnderThresholdDuration, Profile}
use Rattle.relay_core.specs.declared.scripts.Origin.{Origin}
use Rattle.relay_core.specs.declared.scripts.Origin.TheVariants.{Remote, Local}
use Rattle.relay_core.specs.Switch.{at_trigger}
use Rattle.relay_core.specs.World.{World, Outcome}
use Rattle.relay_core.specs.Writing.{at_mode, at_setting}
use Rattle.script_steps.specs.declared.step.Step.{Step}
use Rattle.script_steps.specs.declared.step.Step.TheVariants.{WriteMode, WriteNormal, WriteEmergency, WriteMinOver, WriteMinUnder, WriteProfile, Disconnect, Reconnect}

-- the trigger of a step that disconnects: remote if a client or a schedule runs the script, local
-- if the meter itself does (the distinction is this meter's own)
abbrev pub disconnect_by : Origin → Trigger
disconnect_by Remote = RemoteDisconnect
disconnect_by Local = LocalDisconnect

-- the trigger of a step that reconnects: remote if a client or a schedule runs the script, local if
-- the meter itself does
abbrev pub reconnect_by : Origin → Trigger
reconnect_by Remote = RemoteReconnect
reconnect_by Local = LocalReconnect

-- the effect of a step: that of the write that it names, or of the trigger of its method
unfoldable pub at_step : Origin → Step → World → Outcome
at_step origin (WriteMode mode) w = at_mode mode w
at_step origin Disconnect w = at_trigger (disconnect_by origin) w
at_step origin Reconnect w = at_trigger (reconnect_by origin) w
at_step origin (WriteNormal which watts) w = at_setting which (ThresholdNormal watts) w
at_step origin (WriteEmergency which watts) w = at_setting which (ThresholdEmergency watts) w
at_step origin (WriteMinOver which seconds) w =
    at_setting which (MinOverThresholdDuration seconds) w
at_step origin (WriteMinUnder which seconds) w =
    at_setting which (MinUnderThresholdDuration seconds) w
at_step origin (WriteProfile which profile) w = at_setting which (Profile profile) w

-- whether a result code is that of success
abbrev pub is_success : ResultCode → Bool
is_success Success = true
is_success _ = false

-- the effect of steps in order: a refused one is the last, and its code is the result
unfoldable pub at_script : Origin → List Step → World → Outcome
at_script origin [] w = record { world = w; code = Success }
at_script origin (step ∷ steps) w =
    if is_success (at_step origin step w).code
    then at_script origin steps (at_step origin step w).world else at_step origin step w
