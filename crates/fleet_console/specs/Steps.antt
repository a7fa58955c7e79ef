-- The steps of the console.
--     ConsoleState      the console between two steps
--     IsRead            a command is that of a line
--     CarriesSlice      a command was carried out for a slice of its meters
--     StepsBy           a step of the console
--     CarriesUntil      a command was carried out, slice after slice, until it was over
--     SlicesGiveAll     the slices together give the event to each meter of the line
use Rattle.std.specs.Prelude.{◌≡◌, ◌<◌, ◌&&◌, if◌then◌else◌, ⊤, ℕ, zero, suc, Bool, true, false, List, []}
use Rattle.std.specs.Prelude.{Option, Some, None, Result, Ok, Err, IfSome, length}
use Rattle.relay_events.specs.declared.event.Event.{Event}
use Rattle.fleet_meters.specs.Fleets.{FleetState}
use Rattle.fleet_meters.specs.declared.place.AccessFault.{AccessFault}
use Rattle.fleet_console.specs.Commands.{ReadsBy}
use Rattle.fleet_console.specs.Running.{GivesEachBy, RunsBy}
use Rattle.fleet_console.specs.Slices.{Underway, underway_at_start, underway_after, has_more}
use Rattle.fleet_console.specs.declared.command.Command.{Command}
use Rattle.fleet_console.specs.declared.command.Command.TheVariants.{Give, State, Trace, Count}
use Rattle.fleet_console.specs.declared.meters.Meters.{Meters}

-- the console between two steps: the command that is under way, if there is one
pub record ConsoleState : Type 0 where
  pub command : Option Underway

-- whether a command is that of a line, before its first slice
pub record IsRead (u : Underway) : Type 0 where
  pub line : List ℕ
  pub command : Command
  pub reads : ReadsBy line (Ok command)
  pub is : u ≡ underway_at_start u.line command

-- Whether a command with this result succeeded and its answer was written. An event that was given
-- to the meters of a slice has no answer if the fleet has further meters of the line; any other
-- answer may fail to be written.
abbrev pub IsDone : Result Unit AccessFault → Command → Bool → Bool → Type 0
IsDone (Err fault) command more is_done = is_done ≡ false
IsDone (Ok done) (Give meters event) true is_done = is_done ≡ true
IsDone (Ok done) (Give meters event) false is_done = ⊤
IsDone (Ok done) (State meters) more is_done = ⊤
IsDone (Ok done) (Trace number path) more is_done = ⊤
IsDone (Ok done) (Count state) more is_done = ⊤

-- whether a command was carried out for the next slice of its meters, and this is whether it
-- succeeded
pub record CarriesOut (u : Underway) (old : FleetState) (is_done : Bool) (new : FleetState)
    : Type 0 where
  pub text : List ℕ
  pub result : Result Unit AccessFault
  pub runs : RunsBy old u.command [] result new text
  pub done : IsDone result u.command (has_more u.rest (length new.places)) is_done

-- Whether a command was carried out for the next slice of its meters. If it succeeded and the fleet
-- has meters after this slice, they are next; otherwise the command is over.
pub record CarriesSlice (u : Underway) (old new : FleetState) (next : Option Underway) : Type 0
  where
    pub is_done : Bool
    pub carries : CarriesOut u old is_done new
    pub goes_on : next ≡ (if is_done && has_more u.rest (length new.places)
        then Some (underway_after u u.rest) else None)

-- whether a step of the console did this to a fleet: it carried out the next slice of the command
-- that is under way; or, if there is none, the fleet is unchanged, and the next command is that of
-- a line
abbrev pub StepsBy : Option Underway → FleetState → Option Underway → FleetState → Type 0
StepsBy None old next new = (new ≡ old) × IfSome next IsRead
StepsBy (Some u) old next new = CarriesSlice u old new next

-- whether a command was carried out in at most this many steps, until it was over
abbrev pub CarriesUntil : Option Underway → ℕ → FleetState → FleetState → Type 0
CarriesUntil None steps old new = new ≡ old
CarriesUntil (Some u) zero old new = ⊥
CarriesUntil (Some u) (suc steps) old new = (between : FleetState) × (next : Option Underway)
    × CarriesSlice u old between next × CarriesUntil next steps between new

-- a line that gives an event does to the fleet, slice after slice, what it does to all its meters
-- at once: each is given the event once and in order; or the fleet has none of them; or memory ran
-- out after the first of them
abbrev pub SlicesGiveAll : Type 0
SlicesGiveAll = (steps line : ℕ) (meters : Meters) (event : Event) (old new : FleetState)
    → 0 < meters.first
    → CarriesUntil (Some (underway_at_start line (Give meters event))) steps old new
    → (result : Result ℕ AccessFault) × GivesEachBy old meters event result new
