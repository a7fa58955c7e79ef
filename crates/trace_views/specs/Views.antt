-- What a view shows of a trace: the lines of its run that it selects, each with its event if the
-- view has events, as the player prints them, as comma-separated values or as JSON.
--     whole_view        the view that shows each line as the player prints it, without its event
--     Step, steps       the events of a run with their numbers, their lines, the switch before and
--                       the clock after them
--     is_shown          whether a view shows the line of an event
--     step_text         the line of an event as the player prints it
--     text_in_view      the line of an event in the format of a view
--     view_text         the text of a view of a trace
use Rattle.std.specs.Prelude.{ℕ, suc, nat_lt, Bool, true, false, not, ◌&&◌, ◌||◌, codes, Option}
use Rattle.std.specs.Prelude.{Some, None, List, [], ◌∷◌, ◌++◌, filter, flat_map, if◌then◌else◌}
use Rattle.disconnect_control.specs.Transitions.{is_state}
use Rattle.disconnect_control.specs.declared.state.ControlState.TheVariants.{Connected}
use Rattle.relay_core.specs.Machine.{at_event}
use Rattle.relay_core.specs.Opening.{world_of_opening}
use Rattle.relay_core.specs.Runs.{line_at}
use Rattle.relay_core.specs.World.{World}
use Rattle.relay_events.specs.declared.event.Event.{Event}
use Rattle.relay_events.specs.declared.reply.Line.{Line}
use Rattle.relay_recorder.specs.declared.trace.Trace.{Trace}
use Rattle.text_lines.specs.Words.{line_of}
use Rattle.trace_lines.specs.Replies.{line_text}
use Rattle.trace_lines.specs.Writing.{event_row}
use Rattle.trace_records.specs.Csv.{csv_head, csv_line}
use Rattle.trace_records.specs.Json.{json_line}
use Rattle.trace_records.specs.Records.{fields_of}
use Rattle.trace_views.specs.declared.format.TraceFormat.{TraceFormat}
use Rattle.trace_views.specs.declared.format.TraceFormat.TheVariants.{Lines, Csv, Json}
use Rattle.trace_views.specs.declared.view.Switch.{Switch}
use Rattle.trace_views.specs.declared.view.TraceView.{TraceView}

-- the view that shows each line as the player prints it, without its event
abbrev pub whole_view : TraceView
whole_view = record {
  first = None;
  last = None;
  changes_only = false;
  with_events = false;
  format = Lines;
}

-- the switch of a meter in this world
abbrev pub switch_in : World → Switch
switch_in w = record {
  state = w.control.state;
  output = is_state w.control.state Connected;
}

-- an event of a run: its number, the switch before it, its line, and the last moment of the clock
-- after it
pub record Step : Type 0 where
  pub number : ℕ
  pub event : Event
  pub before : Switch
  pub line : Line
  pub moment : Option ℕ

-- the event with this number of a run, at the world before it
abbrev pub step_at : ℕ → Event → World → Step
step_at number event w = record {
  number = number;
  event = event;
  before = switch_in w;
  line = line_at event w;
  moment = (at_event event w).world.moment;
}

-- the events of a run, the first of them with this number
abbrev pub steps : ℕ → List Event → World → List Step
steps number [] w = []
steps number (event ∷ events) w =
    step_at number event w ∷ steps (suc number) events (at_event event w).world

-- whether a number is below the lower bound, if there is one
abbrev pub is_below : Option ℕ → ℕ → Bool
is_below None number = false
is_below (Some first) number = nat_lt number first

-- whether a number is above the upper bound, if there is one
abbrev pub is_above : Option ℕ → ℕ → Bool
is_above None number = false
is_above (Some last) number = nat_lt last number

-- whether a number is within the bounds of a view
abbrev pub is_within : TraceView → ℕ → Bool
is_within view number = not (is_below view.first number) && not (is_above view.last number)

-- whether a supply is on and the other off
abbrev pub is_supply_change : Bool → Bool → Bool
is_supply_change true output = not output
is_supply_change false output = output

-- whether the control state or the supply of a line differs from that before it
abbrev pub is_change : Switch → Line → Bool
is_change before line =
    not (is_state before.state line.state) || is_supply_change before.output line.output

-- whether a view shows the line of the event of this number
abbrev pub is_shown : TraceView → ℕ → Switch → Line → Bool
is_shown view number before line =
    is_within view number && (not view.changes_only || is_change before line)

-- whether a view shows the line of an event of a run
abbrev pub is_step_shown : TraceView → Step → Bool
is_step_shown view step = is_shown view step.number step.before step.line

-- the event at the end of its line, as the trace has it
abbrev pub event_end : Bool → Event → List ℕ
event_end true event = codes "; event " ++ line_of (event_row event)
event_end false event = []

-- the line of an event, which the player prints, with the event at its end if `with_events`
abbrev pub step_text : Bool → ℕ → Event → Line → List ℕ
step_text with_events number event line =
    line_text number line ++ event_end with_events event ++ 10 ∷ []

-- an event in a format, after which the clock has this moment
abbrev pub text_in_format : TraceFormat → Bool → ℕ → Event → Line → Option ℕ → List ℕ
text_in_format Lines with_events number event line moment = step_text with_events number event line
text_in_format Csv with_events number event line moment =
    csv_line (fields_of with_events number event line moment)
text_in_format Json with_events number event line moment =
    json_line (fields_of with_events number event line moment)

-- an event in the format of a view
abbrev pub text_in_view : TraceView → ℕ → Event → Line → Option ℕ → List ℕ
text_in_view view number event line moment =
    text_in_format view.format view.with_events number event line moment

-- an event of a run in the format of a view
abbrev pub text_of_step : TraceView → Step → List ℕ
text_of_step view step = text_in_view view step.number step.event step.line step.moment

-- what precedes the events in a format: the names of the columns of comma-separated values, and
-- nothing in any other
abbrev pub head_of_format : TraceFormat → Bool → List ℕ
head_of_format Csv with_events = csv_head with_events
head_of_format _ with_events = []

-- what precedes the events in the format of a view
abbrev pub head_text : TraceView → List ℕ
head_text view = head_of_format view.format view.with_events

-- what a view shows of one event
abbrev pub shown_text : TraceView → Step → List ℕ
shown_text view step = if is_step_shown view step then text_of_step view step else []

-- what a view shows of the events of a run: the lines that it selects
abbrev pub steps_text : TraceView → List Step → List ℕ
steps_text view steps = flat_map (text_of_step view) (filter (is_step_shown view) steps)

-- the text of a view of a trace: the events that it shows, after the head of its format
abbrev pub view_text : TraceView → Trace → List ℕ
view_text view trace =
    head_text view ++ steps_text view (steps 1 trace.events (world_of_opening trace.opening))
