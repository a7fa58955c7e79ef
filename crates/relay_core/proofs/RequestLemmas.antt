-- A step of a script has the effect of the request that names the same attribute or method.
use Rattle.std.proofs.Common.{◌≡◌, ℕ, Some, Result, Ok, refl, ap, sym}
use Rattle.wire_bytes.specs.Outcome.{◌>>=◌}
use Rattle.cosem_names.specs.Objects.{object_of, class_attribute_of, class_method_of, attribute_of, method_of, rights_of, may_execute_of}
use Rattle.cosem_names.specs.declared.objects.Which.{Which}
use Rattle.cosem_names.specs.declared.objects.Which.TheVariants.{Import, Export}
use Rattle.disconnect_control.specs.Attributes.{mode_form}
use Rattle.disconnect_control.specs.declared.state.ControlMode.TheVariants.{Mode0, Mode1, Mode2, Mode3, Mode4, Mode5, Mode6}
use Rattle.limiter_attributes.proofs.Again.{number_again, profile_again}
use Rattle.limiter_attributes.specs.Attributes.{attribute_numbered}
use Rattle.limiter_attributes.specs.Reading.{setting_of}
use Rattle.limiter_attributes.specs.declared.setting.Setting.{Setting}
use Rattle.limiter_attributes.specs.declared.setting.Setting.TheVariants as setting
use Rattle.limiter_core.specs.declared.settings.Profile.{Profile}
use Rattle.relay_core.specs.Access.{target_of}
use Rattle.relay_core.specs.Acting.{switch_trigger, at_method, at_execute}
use Rattle.relay_core.specs.Requests.{at_request}
use Rattle.relay_core.specs.Scripts.{at_step}
use Rattle.relay_core.specs.World.{World, Outcome}
use Rattle.relay_core.specs.Writing.{at_setting_form, at_write, at_set}
use Rattle.relay_core.specs.declared.scripts.Origin.TheVariants.{Remote}
use Rattle.script_steps.specs.Table.{IsStep}
use Rattle.cosem_names.specs.declared.write_fault.WriteFault.{WriteFault}
use Rattle.script_steps.specs.declared.step.Step.{Step}
use Rattle.script_steps.specs.declared.step.Step.TheVariants as step

-- a write of a threshold or a duration, by what its Data was read as
abbrev numbered : Which → World → (ℕ → Setting) → Result ℕ WriteFault → Outcome
numbered which w make read = at_setting_form which (read >>= λ number. Ok (Some (make number))) w

-- a write of an emergency profile, by what its Data was read as
abbrev written : Which → World → Result Profile WriteFault → Outcome
written which w read = at_setting_form which (read
    >>= λ profile. Ok (Some (setting.Profile profile))) w

pub step_is_request : (s : Step) (w : World) → IsStep s → at_step Remote s w ≡ at_request s w
unfolding at_request at_set at_execute at_write at_method at_step target_of rights_of may_execute_of
    attribute_of method_of object_of class_attribute_of class_method_of attribute_numbered
    setting_of mode_form switch_trigger
step_is_request (step.WriteMode Mode0) w fits = refl
step_is_request (step.WriteMode Mode1) w fits = refl
step_is_request (step.WriteMode Mode2) w fits = refl
step_is_request (step.WriteMode Mode3) w fits = refl
step_is_request (step.WriteMode Mode4) w fits = refl
step_is_request (step.WriteMode Mode5) w fits = refl
step_is_request (step.WriteMode Mode6) w fits = refl
step_is_request (step.WriteNormal Import watts) w fits =
    sym (ap (numbered Import w (λ n. setting.ThresholdNormal n)) (number_again watts fits))
step_is_request (step.WriteNormal Export watts) w fits =
    sym (ap (numbered Export w (λ n. setting.ThresholdNormal n)) (number_again watts fits))
step_is_request (step.WriteEmergency Import watts) w fits =
    sym (ap (numbered Import w (λ n. setting.ThresholdEmergency n)) (number_again watts fits))
step_is_request (step.WriteEmergency Export watts) w fits =
    sym (ap (numbered Export w (λ n. setting.ThresholdEmergency n)) (number_again watts fits))
step_is_request (step.WriteMinOver Import seconds) w fits = sym
    (ap (numbered Import w (λ n. setting.MinOverThresholdDuration n)) (number_again seconds fits))
step_is_request (step.WriteMinOver Export seconds) w fits = sym
    (ap (numbered Export w (λ n. setting.MinOverThresholdDuration n)) (number_again seconds fits))
step_is_request (step.WriteMinUnder Import seconds) w fits = sym
    (ap (numbered Import w (λ n. setting.MinUnderThresholdDuration n)) (number_again seconds fits))
step_is_request (step.WriteMinUnder Export seconds) w fits = sym
    (ap (numbered Export w (λ n. setting.MinUnderThresholdDuration n)) (number_again seconds fits))
step_is_request (step.WriteProfile Import profile) w fits =
    sym (ap (written Import w) (profile_again profile fits))
step_is_request (step.WriteProfile Export profile) w fits =
    sym (ap (written Export w) (profile_again profile fits))
step_is_request step.Disconnect w fits = refl
step_is_request step.Reconnect w fits = refl
