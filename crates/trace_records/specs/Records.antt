-- An event of a run as a record: the parts of the line that the player prints for it, and the
-- moment of the meter's clock.
--     Fields         the values of a record
--     reply_text     the words of a reply
--     fields_of      the record of an event
use Rattle.std.specs.Prelude.{ℕ, Bool, true, false, codes, length, List, Option, Some, None}
use Rattle.disconnect_control.specs.Transitions.{state_number}
use Rattle.relay_events.specs.declared.event.Event.{Event}
use Rattle.relay_events.specs.declared.reply.Line.{Line}
use Rattle.relay_events.specs.declared.reply.Reply.{Reply}
use Rattle.text_lines.specs.Words.{line_of}
use Rattle.trace_lines.specs.Replies.{reply_row}
use Rattle.trace_lines.specs.Writing.{event_row}
use Rattle.trace_words.specs.Writing.{row_text}

-- the values of a record: the number of the event, the words of its reply, the number of the
-- control state and whether the supply is on, the last moment of the clock, if there was one, and
-- the line of the event, if it is shown
pub record Fields : Type 0 where
  pub number : ℕ
  pub reply : List ℕ
  pub state : ℕ
  pub output : Bool
  pub moment : Option ℕ
  pub event : Option (List ℕ)

-- the words of a reply, separated by blanks
abbrev pub reply_text : Reply → List ℕ
reply_text reply = row_text (reply_row reply)

-- the number of bytes after the reply in a line, whose state has one digit
abbrev pub len_after_reply : Bool → ℕ
len_after_reply true = length (codes "; state 0; supply on")
len_after_reply false = length (codes "; state 0; supply off")

-- the line of an event, if it is shown
abbrev pub event_text : Bool → Event → Option (List ℕ)
event_text true event = Some (line_of (event_row event))
event_text false event = None

-- the record of an event, after which the clock has this moment
abbrev pub fields_of : Bool → ℕ → Event → Line → Option ℕ → Fields
fields_of with_event number event line moment = record {
  number = number;
  reply = reply_text line.reply;
  state = state_number line.state;
  output = line.output;
  moment = moment;
  event = event_text with_event event;
}
