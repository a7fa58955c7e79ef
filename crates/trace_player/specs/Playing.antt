-- What a trace prints when it is played: a line for each event, counted from 1.
--     lines_text       lines as text
--     output_of_trace  the output of a trace
--     PlaysEvent       an event was read from the next line and applied, and its line written
--     PlaysEvents      a number of events were, one after the other
--     PlaysTrace       a trace was read and played
use Rattle.std.specs.Prelude.{◌≡◌, ℕ, suc, List, [], ◌∷◌, ◌++◌, length, Result, Ok}
use Rattle.relay_core.specs.Machine.{at_event}
use Rattle.relay_core.specs.Opening.{world_of_opening}
use Rattle.relay_core.specs.Runs.{line_at, lines_of}
use Rattle.relay_core.specs.Stands.{StandsFor}
use Rattle.relay_core.specs.World.{World}
use Rattle.relay_events.specs.declared.event.Event.{Event}
use Rattle.relay_events.specs.declared.reply.Line.{Line}
use Rattle.relay_core.specs.declared.relay.RelayCore.{RelayCore}
use Rattle.relay_recorder.specs.declared.trace.Trace.{Trace}
use Rattle.trace_lines.specs.Events.{event_of}
use Rattle.trace_words.specs.Places.{Place, line_as}
use Rattle.trace_lines.specs.Replies.{line_text}
use Rattle.trace_words.specs.declared.fault.TraceFault.{TraceFault}
use Rattle.trace_words.specs.declared.version.Version.{Version}
use Rattle.trace_player.specs.Traces.{events_at}

-- lines of a run as text, the first of them with this number
unfoldable pub lines_text : ℕ → List Line → List ℕ
lines_text number [] = []
lines_text number (line ∷ lines) = line_text number line ++ 10 ∷ lines_text (suc number) lines

-- the output of a trace: the lines of the run over its events, from the world of its opening
abbrev pub output_of_trace : Trace → List ℕ
output_of_trace trace = lines_text 1 (lines_of trace.events (world_of_opening trace.opening))

-- whether the event of the next line was read and applied to a meter, and its line was written
-- after the others
pub record PlaysEvent (version : Version) (number : ℕ) (place place' : Place)
    (core core' : RelayCore) (out out' : List ℕ) : Type 0 where
  pub event : Event
  pub read : line_as (event_of version) place ≡ Ok (event, place')
  pub world : (w : World) → StandsFor core w → StandsFor core' (at_event event w).world
  pub wrote : (w : World) → StandsFor core w
      → out' ≡ out ++ line_text number (line_at event w) ++ 10 ∷ []

-- whether the next `count` events were read and applied to a meter, and these lines were written
pub record PlaysEvents (version : Version) (count : ℕ) (place place' : Place) (core : RelayCore)
    (out : List ℕ) : Type 0 where
  pub events : List Event
  pub read : events_at version count place ≡ Ok (events, place')
  pub counted : count ≡ length events
  pub wrote : (w : World) → StandsFor core w → out ≡ lines_text 1 (lines_of events w)

-- whether the bytes that were read are a trace of `count` events, and this is its output
pub record PlaysTrace (given : Result Trace TraceFault) (out : List ℕ) (count : ℕ) : Type 0 where
  pub trace : Trace
  pub read : given ≡ Ok trace
  pub wrote : out ≡ output_of_trace trace
  pub counted : count ≡ length trace.events
