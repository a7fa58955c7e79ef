-- What a meter starts with, and why it cannot start.
--     Resumes        the recorder of a meter that resumes from a trace
--     IsPlanFault    why there is no plan
use Rattle.std.specs.Prelude.{◌≡◌, ◌⊎◌, ◌<◌, ◌≤◌, ℕ, Bool, true, List, length, Option, ⊤}
use Rattle.acse_ber.specs.Password.{IsPassword}
use Rattle.server_commands.specs.Heads.{IsHeadFault, TakesHead}
use Rattle.trace_player.specs.Resuming.{ContinuesRun, world_of}
use Rattle.relay_core.specs.Stands.{StandsFor}
use Rattle.relay_core.specs.World.{IsDeviceName}
use Rattle.relay_recorder.specs.Recording.{IsCapacity, Recording, max_capacity}
use Rattle.relay_recorder.specs.declared.trace.Trace.{Trace}
use Rattle.server_commands.specs.declared.options.Bounds.{Bounds}
use Rattle.server_commands.specs.declared.plan_fault.PlanFault.{PlanFault}
use Rattle.server_commands.specs.declared.plan_fault.PlanFault.TheVariants as fault

-- Whether this is the recorder of a meter that resumes from the trace at the head of its input.
-- What follows the trace is left of the input, the recorder's core represents the world after the
-- trace's run, and whatever event follows, it answers as the meter that wrote it.
pub record Resumes (left left' : Option (List ℕ)) (recorder : Recording) : Type 0 where
  pub trace : Trace
  pub takes : TakesHead left trace left'
  pub stands : StandsFor recorder.core (world_of trace)
  pub goes_on : ContinuesRun trace (world_of trace)

-- whether a number of kept events is other than 1 to 1,024
abbrev pub IsWrongDepth : ℕ → Type 0
IsWrongDepth depth = (depth ≡ 0) ⊎ (max_capacity < depth)

-- whether this is why there is no recorder, by whether a read of the input failed
abbrev pub IsRecorderFault : Bounds → Option (List ℕ) → Bool → PlanFault → Type 0
IsRecorderFault bounds left failed fault.Depth = IsWrongDepth bounds.depth
IsRecorderFault bounds left failed fault.Memory = ⊤
IsRecorderFault bounds left failed other = IsCapacity bounds.depth × (bounds.resumes ≡ true)
    × IsHeadFault left failed other

-- whether this is why there is no plan: the first that is wrong of the password, the device name,
-- the depth and the trace; a failed read, or out of memory
abbrev pub IsPlanFault : List ℕ → List ℕ → Bounds → Option (List ℕ) → PlanFault → Type 0
IsPlanFault password device bounds left fault.Password =
    (length password ≡ 0) ⊎ (32 < length password)
IsPlanFault password device bounds left fault.Device = IsPassword password
    × ((length device ≡ 0) ⊎ (16 < length device))
IsPlanFault password device bounds left fault.Memory = ⊤
IsPlanFault password device bounds left other = IsPassword password × IsDeviceName device
    × ((failed : Bool) × IsRecorderFault bounds left failed other)
