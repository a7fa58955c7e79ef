-- What happens to the console's lines.
--     LineEvents                   the events of lines, and the number of lost lines
--     TakesFrom                 a sink took the event of one line
--     HandsOn                   the events of the first lines of an input were passed on
--     has_failed, lost_lines    whether a read failed, and the number of lost lines
--     ConsoleEnds                    the console ended
use Rattle.std.specs.Prelude.{◌≡◌, ◌⊎◌, ℕ, suc, Bool, false, List, [], ◌∷◌, ◌++◌, Option, Some}
use Rattle.relay_events.specs.declared.event.Event.{Event}
use Rattle.meter_console.specs.Console.{LineEvent, IsOwnLine}
use Rattle.meter_console.specs.Lines.{lines_in}
use Rattle.meter_console.specs.declared.running.ConsoleEnd.{ConsoleEnd}

-- Whether these are the events of the lines, in order, and `lost` is the number of lost lines. Each
-- line has one event, has none, or is an own event of the meter and was lost.
abbrev pub LineEvents : List (List ℕ) → List Event → ℕ → Type 0
LineEvents [] events lost = (events ≡ []) × (lost ≡ 0)
LineEvents (line ∷ lines) events lost =
    ((event : Event) × (later : List Event) × LineEvent line event × (events ≡ event ∷ later)
    × LineEvents lines later lost)
    ⊎ (((event : Event) → ¬ (LineEvent line event)) × LineEvents lines events lost)
    ⊎ ((others : ℕ) × IsOwnLine line × (lost ≡ suc others) × LineEvents lines events others)

-- whether a sink took the event of one line, if it has one, or the line was lost
abbrev pub TakesFrom : List ℕ → ℕ → Option (List Event) → Option (List Event) → Type 0
TakesFrom line lost listed taken = (before : List Event) → listed ≡ Some before
    → (events : List Event) × LineEvents (line ∷ []) events lost × (taken ≡ Some (before ++ events))

-- whether the events of the first lines of an input were passed on, in order, each once; `lost` of
-- these lines were lost
pub record HandsOn (input : List ℕ) (before : List Event) (lost : ℕ) (left : Option (List ℕ))
    (taken : Option (List Event)) : Type 0 where
  pub read : List (List ℕ)
  pub rest : List ℕ
  pub events : List Event
  pub left_is : left ≡ Some rest
  pub lines : lines_in input ≡ read ++ lines_in rest
  pub brought : LineEvents read events lost
  pub taken_is : taken ≡ Some (before ++ events)

-- whether `HandsOn` holds, if the bytes of the reader are known and the sink lists its events
abbrev pub HandsAll : Option (List ℕ) → Option (List Event) → ℕ → Option (List ℕ)
    → Option (List Event)
    → Type 0
HandsAll known listed lost left taken = (input : List ℕ) (before : List Event) → known ≡ Some input
    → listed ≡ Some before → HandsOn input before lost left taken

-- whether a read failed
abbrev pub has_failed : ConsoleEnd → Bool
has_failed end = end.has_failed

-- the number of lost lines
abbrev pub lost_lines : ConsoleEnd → ℕ
lost_lines end = end.lost

-- whether the console ended: the events of its lines were passed on, in order, each once; after a
-- failed read those of the last lines may be missing
pub record ConsoleEnds (input : List ℕ) (before : List Event) (end : ConsoleEnd)
    (taken : Option (List Event)) : Type 0 where
  pub read : List (List ℕ)
  pub unread : List (List ℕ)
  pub events : List Event
  pub lines : lines_in input ≡ read ++ unread
  pub all : end.has_failed ≡ false → unread ≡ []
  pub brought : LineEvents read events end.lost
  pub taken_is : taken ≡ Some (before ++ events)

-- whether `ConsoleEnds` holds, if the bytes of the reader are known and the sink lists its events
abbrev pub Ends : Option (List ℕ) → Option (List Event) → ConsoleEnd → Option (List Event) → Type 0
Ends known listed end taken = (input : List ℕ) (before : List Event) → known ≡ Some input
    → listed ≡ Some before → ConsoleEnds input before end taken
