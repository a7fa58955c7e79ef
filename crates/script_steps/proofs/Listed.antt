-- The listed steps, by their addresses.
use Rattle.std.proofs.Common.{◌≡◌, Some, refl}
use Rattle.cosem_names.specs.Objects.{object_of, class_attribute_of, class_method_of, attribute_of, method_of, rights_of, may_execute_of}
use Rattle.cosem_names.specs.declared.objects.Which.TheVariants.{Import, Export}
use Rattle.script_steps.specs.Addresses.{action_at, address_of, action_of}
use Rattle.script_steps.specs.Law.{IsInTable, IsListed, IsNamed}
use Rattle.script_steps.specs.declared.action.Action.{Action}
use Rattle.script_steps.specs.declared.action.Action.TheVariants.{Mode, Normal, Emergency, MinOver, MinUnder, Profile, Disconnect, Reconnect}
use Rattle.script_steps.specs.declared.step.Step.{Step}
use Rattle.script_steps.specs.declared.step.Step.TheVariants as variant

-- each action is found by its address
pub action_again : (action : Action) → action_at (address_of action) ≡ Some action
unfolding action_at
action_again Mode = refl
action_again (Normal Import) = refl
action_again (Normal Export) = refl
action_again (Emergency Import) = refl
action_again (Emergency Export) = refl
action_again (MinOver Import) = refl
action_again (MinOver Export) = refl
action_again (MinUnder Import) = refl
action_again (MinUnder Export) = refl
action_again (Profile Import) = refl
action_again (Profile Export) = refl
action_again Disconnect = refl
action_again Reconnect = refl

-- each step is found by its address
pub step_listed : (step : Step) → IsListed step
step_listed step = action_again (action_of step)

-- the address of each step is in the table of the meter's objects
pub step_in_table : (step : Step) → IsInTable step
unfolding object_of class_attribute_of class_method_of attribute_of method_of rights_of
    may_execute_of
step_in_table (variant.WriteMode mode) = record { named = refl; classed = refl; allowed = refl }
step_in_table (variant.WriteNormal Import watts) =
    record { named = refl; classed = refl; allowed = refl }
step_in_table (variant.WriteNormal Export watts) =
    record { named = refl; classed = refl; allowed = refl }
step_in_table (variant.WriteEmergency Import watts) =
    record { named = refl; classed = refl; allowed = refl }
step_in_table (variant.WriteEmergency Export watts) =
    record { named = refl; classed = refl; allowed = refl }
step_in_table (variant.WriteMinOver Import seconds) =
    record { named = refl; classed = refl; allowed = refl }
step_in_table (variant.WriteMinOver Export seconds) =
    record { named = refl; classed = refl; allowed = refl }
step_in_table (variant.WriteMinUnder Import seconds) =
    record { named = refl; classed = refl; allowed = refl }
step_in_table (variant.WriteMinUnder Export seconds) =
    record { named = refl; classed = refl; allowed = refl }
step_in_table (variant.WriteProfile Import profile) =
    record { named = refl; classed = refl; allowed = refl }
step_in_table (variant.WriteProfile Export profile) =
    record { named = refl; classed = refl; allowed = refl }
step_in_table variant.Disconnect = record { named = refl; classed = refl; allowed = refl }
step_in_table variant.Reconnect = record { named = refl; classed = refl; allowed = refl }

-- a step that writes a limiter names the attribute that it writes
pub step_named : (step : Step) → IsNamed step
step_named (variant.WriteMode mode) = tt
step_named (variant.WriteNormal Import watts) = refl
step_named (variant.WriteNormal Export watts) = refl
step_named (variant.WriteEmergency Import watts) = refl
step_named (variant.WriteEmergency Export watts) = refl
step_named (variant.WriteMinOver Import seconds) = refl
step_named (variant.WriteMinOver Export seconds) = refl
step_named (variant.WriteMinUnder Import seconds) = refl
step_named (variant.WriteMinUnder Export seconds) = refl
step_named (variant.WriteProfile Import profile) = refl
step_named (variant.WriteProfile Export profile) = refl
step_named variant.Disconnect = tt
step_named variant.Reconnect = tt
