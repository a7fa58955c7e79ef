-- What a command does, and its answer.
--     size_in          the number of meters of a range that a fleet has
--     GivesEachBy      an event was given to each meter of a range
--     StatesBy         the control state of each meter of a range was appended to a text
--     RunsBy           a command was carried out
use Rattle.std.specs.Prelude.{◌≡◌, ◌<◌, ◌≤◌, ⊤, ℕ, ◌+◌, ◌-◌, ◌++◌, List, [], ◌∷◌, Result, Ok, Err}
use Rattle.std.specs.Prelude.{length, min, decimal, slice_index_or}
use Rattle.disconnect_control.specs.declared.state.ControlState.{ControlState}
use Rattle.relay_events.specs.declared.event.Event.{Event}
use Rattle.relay_events.specs.declared.reply.Reply.{Reply}
use Rattle.fleet_meters.specs.Fleets.{FleetState, Applies, TraceBy, Counts}
use Rattle.fleet_meters.specs.Places.{HasState, meter_in}
use Rattle.fleet_meters.specs.Terms.{terms_at}
use Rattle.fleet_meters.specs.declared.place.AccessFault.{AccessFault}
use Rattle.fleet_meters.specs.declared.place.AccessFault.TheVariants.{NoMeter, Memory}
use Rattle.fleet_meters.specs.Calls.{FleetCall, gave, Calls}
use Rattle.fleet_console.specs.Commands.{state_word}
use Rattle.fleet_console.specs.declared.command.Command.{Command}
use Rattle.fleet_console.specs.declared.command.Command.TheVariants.{Give, State, Trace, Count}
use Rattle.fleet_console.specs.declared.meters.Meters.{Meters}

-- the number of meters of a range that a fleet of this many meters has
abbrev pub size_in : Meters → ℕ → ℕ
size_in meters total = min meters.last total + 1 - meters.first

-- the calls that give an event to the meters from a place on, which had these replies
abbrev pub given_calls : ℕ → Event → List Reply → List FleetCall
given_calls place event [] = []
given_calls place event (reply ∷ replies) =
    gave place event reply ∷ given_calls (place + 1) event replies

-- whether this many meters, from a place on, were given an event, each once and in order, and
-- nothing else was done
pub record GivesFrom (old : FleetState) (place count : ℕ) (event : Event) (new : FleetState)
    : Type 0 where
  pub replies : List Reply
  pub counted : length replies ≡ count
  pub leads : (room : ℕ) → Calls room old (given_calls place event replies) new

-- whether the meter with this number was given an event, or nothing changed
abbrev pub GivesOneBy : FleetState → ℕ → Event → Result Unit AccessFault → FleetState → Type 0
GivesOneBy old number event (Ok done) new = (place : ℕ) × (reply : Reply) × (number ≡ place + 1)
    × Applies old place event reply new
GivesOneBy old number event (Err fault) new = new ≡ old

-- whether an event was given to each meter of a range, and how many there are; or the fleet has
-- none of them; or memory ran out after the first of them
abbrev pub GivesEachBy : FleetState → Meters → Event → Result ℕ AccessFault → FleetState → Type 0
GivesEachBy old meters event (Ok count) new = (count ≡ size_in meters (length old.places))
    × (0 < count) × GivesFrom old (meters.first - 1) count event new
GivesEachBy old meters event (Err NoMeter) new = (size_in meters (length old.places) ≡ 0)
    × (new ≡ old)
GivesEachBy old meters event (Err Memory) new = (count : ℕ)
    × (count ≤ size_in meters (length old.places))
    × GivesFrom old (meters.first - 1) count event new

-- the line of a meter's control state: its number, a blank and the word
abbrev pub state_line : ℕ → ControlState → List ℕ
state_line number state = decimal number ++ 32 ∷ [] ++ state_word state ++ 10 ∷ []

-- the lines of the control states of meters, from a number on
abbrev pub states_text : ℕ → List ControlState → List ℕ
states_text number [] = []
states_text number (state ∷ states) = state_line number state ++ states_text (number + 1) states

-- whether the line of the control state of a meter was appended to a text
abbrev pub ShowsOneBy : FleetState → ℕ → List ℕ → Result Unit AccessFault → List ℕ → Type 0
ShowsOneBy f number text (Ok done) text' = (place : ℕ) × (state : ControlState)
    × (number ≡ place + 1) × HasState (terms_at f.terms place) (meter_in f.places place) state
    × (text' ≡ text ++ state_line number state)
ShowsOneBy f number text (Err fault) text' = ⊤

-- whether these are the control states of meters of a fleet, from a place on
pub record HaveStatesFrom (f : FleetState) (place : ℕ) (states : List ControlState) : Type 0 where
  pub each : (i : ℕ) (other : ControlState) → i < length states
      → HasState (terms_at f.terms (place + i)) (meter_in f.places (place + i))
      (slice_index_or states i other)

-- whether the lines of the control states of a range were appended to a text; or the fleet has none
-- of the meters
abbrev pub StatesBy : FleetState → Meters → List ℕ → Result Unit AccessFault → List ℕ → Type 0
StatesBy f meters text (Ok done) text' = (states : List ControlState)
    × (length states ≡ size_in meters (length f.places)) × (0 < length states)
    × HaveStatesFrom f (meters.first - 1) states × (text' ≡ text ++ states_text meters.first states)
StatesBy f meters text (Err NoMeter) text' = (size_in meters (length f.places) ≡ 0)
    × (text' ≡ text)
StatesBy f meters text (Err Memory) text' = ⊤

-- a line of a number
abbrev pub number_line : ℕ → List ℕ
number_line number = decimal number ++ 10 ∷ []

-- whether the number of meters that an event was given to was appended to a text, or why not;
-- memory may also run out after the event was given to all of them
abbrev pub GivesBy : FleetState → Meters → Event → List ℕ → Result Unit AccessFault → FleetState
    → List ℕ → Type 0
GivesBy old meters event text (Ok done) new text' = (count : ℕ)
    × GivesEachBy old meters event (Ok count) new × (text' ≡ text ++ number_line count)
GivesBy old meters event text (Err NoMeter) new text' =
    GivesEachBy old meters event (Err NoMeter) new × (text' ≡ text)
GivesBy old meters event text (Err Memory) new text' = (count : ℕ)
    × (count ≤ size_in meters (length old.places))
    × GivesFrom old (meters.first - 1) count event new

-- whether the number of meters in a control state was appended to a text, or why not
abbrev pub CountsBy : FleetState → ControlState → List ℕ → Result Unit AccessFault → List ℕ
    → Type 0
CountsBy f state text (Ok done) text' = (count : ℕ) × Counts f state count
    × (text' ≡ text ++ number_line count)
CountsBy f state text (Err NoMeter) text' = ⊥
CountsBy f state text (Err Memory) text' = ⊤

-- whether the trace of a meter was appended to a text, or why not
abbrev pub TracesBy : FleetState → ℕ → List ℕ → Result Unit AccessFault → List ℕ → Type 0
TracesBy f number text (Ok done) text' = (trace : List ℕ) × TraceBy f number (Ok trace)
    × (text' ≡ text ++ trace)
TracesBy f number text (Err NoMeter) text' = TraceBy f number (Err NoMeter) × (text' ≡ text)
TracesBy f number text (Err Memory) text' = ⊤

-- Whether a command was carried out, with this text appended to the earlier one. Only `Give`
-- changes the fleet.
abbrev pub RunsBy : FleetState → Command → List ℕ → Result Unit AccessFault → FleetState → List ℕ
    → Type 0
RunsBy old (Give meters event) text result new text' = GivesBy old meters event text result new
    text'
RunsBy old (State meters) text result new text' = (new ≡ old)
    × StatesBy old meters text result text'
RunsBy old (Trace number path) text result new text' = (new ≡ old)
    × TracesBy old number text result text'
RunsBy old (Count state) text result new text' = (new ≡ old) × CountsBy old state text result text'
