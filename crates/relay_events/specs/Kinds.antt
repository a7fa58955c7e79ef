-- The kinds of events and of replies.
use Rattle.std.specs.Prelude.{Bool, true, false, ⊤}
use Rattle.relay_events.specs.declared.event.Event.{Event}
use Rattle.relay_events.specs.declared.event.Event.TheVariants.{Get, GetList, Set, Execute, Button, Samples, Moment}
use Rattle.relay_events.specs.declared.reply.Reply.{Reply}
use Rattle.relay_events.specs.declared.reply.Reply.TheVariants.{Value, Values, Code, Sampled, SampledBoth, Ran, Stale}

-- whether an event only reads
abbrev pub is_read : Event → Bool
is_read (Get level attr selected) = true
is_read (GetList level items) = true
is_read (Set level attr selected value) = false
is_read (Execute level method parameter) = false
is_read Button = false
is_read (Samples block) = false
is_read (Moment now) = false

-- whether a reply is a result code, as a SET, an ACTION and a press of the button have
abbrev pub IsCode : Reply → Type 0
IsCode (Code code) = ⊤
IsCode _ = ⊥

-- whether a reply is a value or a result code, as a GET of one attribute has
abbrev pub IsValueOrCode : Reply → Type 0
IsValueOrCode (Value value) = ⊤
IsValueOrCode (Code code) = ⊤
IsValueOrCode _ = ⊥

-- whether a reply is a list of results, as a GET of a list of attributes has
abbrev pub AreValues : Reply → Type 0
AreValues (Values results) = ⊤
AreValues _ = ⊥

-- whether a reply is the number of firings of one limiter or of both, as a block of samples has
abbrev pub IsOfSamples : Reply → Type 0
IsOfSamples (Sampled over under) = ⊤
IsOfSamples (SampledBoth over under export_over export_under) = ⊤
IsOfSamples _ = ⊥

-- whether a reply is that to a moment: the number of schedules that were due, or the last moment if
-- this one is earlier
abbrev pub IsOfClock : Reply → Type 0
IsOfClock (Ran count) = ⊤
IsOfClock (Stale last) = ⊤
IsOfClock _ = ⊥

-- whether the reply is of the event's kind: a value or a code for a Get, values for a GetList,
-- counts for Samples, a count or Stale for a Moment, a code for any other event
abbrev pub Fits : Event → Reply → Type 0
Fits (Get level attr selected) reply = IsValueOrCode reply
Fits (GetList level items) reply = AreValues reply
Fits (Set level attr selected value) reply = IsCode reply
Fits (Execute level method parameter) reply = IsCode reply
Fits Button reply = IsCode reply
Fits (Samples block) reply = IsOfSamples reply
Fits (Moment now) reply = IsOfClock reply
