-- The effect of the client's request that names what a step of a script names.
use Rattle.std.specs.Prelude.{false, Some, if◌then◌else◌}
use Rattle.cosem_names.specs.declared.level.Level.TheVariants.{Management}
use Rattle.relay_core.specs.Acting.{at_execute}
use Rattle.relay_core.specs.World.{World, Outcome}
use Rattle.relay_core.specs.Writing.{at_set}
use Rattle.script_steps.specs.Law.{is_write, attribute_named, method_named}
use Rattle.script_steps.specs.Writing.{parameter_of}
use Rattle.script_steps.specs.declared.step.Step.{Step}

-- the effect of a management client's request: the SET of the step's attribute with its parameter,
-- or the ACTION of its method (IEC 62056-6-2, class 9)
unfoldable pub at_request : Step → World → Outcome
at_request step w =
    if is_write step then at_set Management (attribute_named step) false (parameter_of step) w
    else at_execute Management (method_named step) (Some (parameter_of step)) w
