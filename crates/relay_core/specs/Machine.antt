-- The meter as a state machine: the world and the reply after each event, and which events never
-- allocate.
use Rattle.std.specs.Prelude.{Bool, true, false}
use Rattle.cosem_names.specs.declared.service.GetResult.{GetResult}
use Rattle.cosem_names.specs.declared.service.GetResult.TheVariants as result
use Rattle.relay_events.specs.declared.event.Event.{Event}
use Rattle.relay_events.specs.declared.event.Event.TheVariants.{Get, GetList, Set, Execute, Button, Samples, Moment}
use Rattle.relay_events.specs.declared.reply.Reply.{Reply}
use Rattle.relay_events.specs.declared.reply.Reply.TheVariants.{Value, Values, Code}
use Rattle.relay_core.specs.Acting.{at_execute, at_button}
use Rattle.relay_core.specs.Clock.{at_moment}
use Rattle.relay_core.specs.Memory.{reads_plainly, writes_plainly}
use Rattle.relay_core.specs.Reading.{get_result, get_results}
use Rattle.relay_core.specs.Sampling.{at_samples}
use Rattle.relay_core.specs.World.{World, Outcome, Stepped}
use Rattle.relay_core.specs.Writing.{at_set}

-- the reply to a Get
abbrev pub reply_of : GetResult → Reply
reply_of (result.Value value) = Value value
reply_of (result.Code code) = Code code

-- the step of a call's outcome: its reply is the result code
abbrev pub step_of : Outcome → Stepped
step_of outcome = record { world = outcome.world; reply = Code outcome.code }

-- the effect of an event
unfoldable pub at_event : Event → World → Stepped
at_event (Get level attr selected) w =
    record { world = w; reply = reply_of (get_result level attr selected w) }
at_event (GetList level items) w = record { world = w; reply = Values (get_results level items w) }
at_event (Set level attr selected value) w = step_of (at_set level attr selected value w)
at_event (Execute level method parameter) w = step_of (at_execute level method parameter w)
at_event Button w = step_of (at_button w)
at_event (Samples block) w = at_samples block w
at_event (Moment now) w = at_moment now w

-- whether an event never allocates, so that it always has a reply
unfoldable pub is_sure : Event → Bool
is_sure (Get level attr selected) = reads_plainly level attr selected
is_sure (GetList level items) = false
is_sure (Set level attr selected value) = writes_plainly level attr selected
is_sure (Execute level method parameter) = true
is_sure Button = true
is_sure (Samples block) = true
is_sure (Moment now) = true
