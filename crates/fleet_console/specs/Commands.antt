-- The lines of the console, without the bytes 0A that end them.
--     first_word, rest_of     a line before and after its first blank
--     meters_of               the meters that a word means
--     state_word, state_of    the words of the control states
--     RequestBy               what is asked of some meters
--     ReadsBy                 a line was read
use Rattle.std.specs.Prelude.{◌≡◌, ◌≢◌, ◌⊎◌, ⊤, ℕ, ◌==◌, if◌then◌else◌, nat_le, codes, Bool, true}
use Rattle.std.specs.Prelude.{false, List, [], Option, Some, None, Result, Ok, Err}
use Rattle.std.specs.List.{before_first, after_first}
use Rattle.std.specs.Str.{bytes_eq}
use Rattle.disconnect_control.specs.declared.state.ControlState.{ControlState}
use Rattle.disconnect_control.specs.declared.state.ControlState.TheVariants.{Disconnected, Connected}
use Rattle.disconnect_control.specs.declared.state.ControlState.TheVariants.{ReadyForReconnection}
use Rattle.relay_events.specs.declared.event.Event.{Event}
use Rattle.meter_console.specs.Console.{LineEvent}
use Rattle.text_lines.specs.Numbers.{number_of}
use Rattle.fleet_console.specs.declared.command.Command.{Command}
use Rattle.fleet_console.specs.declared.command.Command.TheVariants.{Give, State, Trace, Count}
use Rattle.fleet_console.specs.declared.fault.ConsoleFault.{ConsoleFault}
use Rattle.fleet_console.specs.declared.fault.ConsoleFault.TheVariants as fault
use Rattle.fleet_console.specs.declared.meters.Meters.{Meters}

-- the byte between words
abbrev pub blank : ℕ
blank = 32

-- the byte between the first and the last number of a range
abbrev pub dash : ℕ
dash = 45

-- the greatest number of a meter: that of the address 127.255.255.255
abbrev pub max_meter : ℕ
max_meter = 16777215

-- the bytes of a line before its first blank, all of them if it has none
abbrev pub first_word : List ℕ → List ℕ
first_word line = before_first (λ byte. byte == blank) line

-- the bytes of a line after its first blank, none if it has none
abbrev pub rest_of : List ℕ → List ℕ
rest_of line = after_first (λ byte. byte == blank) line

-- a number, if it is not 0
abbrev pub positive : Option ℕ → Option ℕ
positive None = None
positive (Some number) = if number == 0 then None else Some number

-- the number of a meter that a word writes in decimal digits
abbrev pub meter_number : List ℕ → Option ℕ
meter_number word = positive (number_of max_meter word)

-- the meters from the first number to the last, if both are numbers and in order
abbrev pub range : Option ℕ → Option ℕ → Option Meters
range None last = None
range (Some first) None = None
range (Some first) (Some last) = if nat_le first last
    then Some (record { first = first; last = last }) else None

-- one meter, else a range
abbrev pub one_or_range : Option ℕ → Option ℕ → Option ℕ → Option Meters
one_or_range None first last = range first last
one_or_range (Some number) first last = Some (record { first = number; last = number })

-- the meters that a word means: `all`, a number, or the first number, a dash and the last number
unfoldable pub meters_of : List ℕ → Option Meters
meters_of word = if bytes_eq word (codes "all")
    then Some (record { first = 1; last = max_meter })
    else one_or_range (meter_number word)
    (meter_number (before_first (λ byte. byte == dash) word))
    (meter_number (after_first (λ byte. byte == dash) word))

-- the word of a control state
abbrev pub state_word : ControlState → List ℕ
state_word Disconnected = codes "disconnected"
state_word Connected = codes "connected"
state_word ReadyForReconnection = codes "ready"

-- the control state of a word
unfoldable pub state_of : List ℕ → Option ControlState
state_of word =
    if bytes_eq word (codes "disconnected") then Some Disconnected else
    if bytes_eq word (codes "connected") then Some Connected else
    if bytes_eq word (codes "ready") then Some ReadyForReconnection else None

-- Whether this is what these words ask of some meters, or why they ask nothing: an event, as the
-- console of `meter_server serve` has it; the control state; or, of one meter, its trace in a file.
abbrev pub RequestBy : Meters → List ℕ → Result Command ConsoleFault → Type 0
RequestBy meters words (Ok (Give these event)) = (these ≡ meters) × LineEvent words event
RequestBy meters words (Ok (State these)) = (these ≡ meters) × (words ≡ codes "state")
RequestBy meters words (Ok (Trace number path)) = (first_word words ≡ codes "trace")
    × (meters ≡ record { first = number; last = number }) × (path ≡ rest_of words) × (path ≢ [])
RequestBy meters words (Ok (Count state)) = ⊥
RequestBy meters words (Err fault.Request) = (words ≢ codes "state")
    × (first_word words ≢ codes "trace") × ((event : Event) → ¬ (LineEvent words event))
RequestBy meters words (Err fault.Trace) = (first_word words ≡ codes "trace")
    × ((rest_of words ≡ []) ⊎ (meters.first ≢ meters.last))
RequestBy meters words (Err fault.Memory) = ⊤
RequestBy meters words (Err fault.Meters) = ⊥
RequestBy meters words (Err fault.State) = ⊥

-- whether this is what these words ask of the meters that were found before them
abbrev pub AddressBy : Option Meters → List ℕ → Result Command ConsoleFault → Type 0
AddressBy None words result = result ≡ Err fault.Meters
AddressBy (Some meters) words result = RequestBy meters words result

-- whether a line asks for the number of the meters in this control state
abbrev pub CountBy : Option ControlState → Result Command ConsoleFault → Type 0
CountBy None result = result ≡ Err fault.State
CountBy (Some state) result = result ≡ Ok (Count state)

-- whether a line was read with this result, if its first word is `count`, and otherwise
abbrev pub WordBy : Bool → List ℕ → Result Command ConsoleFault → Type 0
WordBy true line result = CountBy (state_of (rest_of line)) result
WordBy false line result = AddressBy (meters_of (first_word line)) (rest_of line) result

-- whether a line was read with this result: `count` and a control state, or meters and what is
-- asked of them
abbrev pub ReadsBy : List ℕ → Result Command ConsoleFault → Type 0
ReadsBy line result = WordBy (bytes_eq (first_word line) (codes "count")) line result
