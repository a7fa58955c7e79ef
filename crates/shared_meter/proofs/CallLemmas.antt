-- The effect of one more call on a history of calls.
use Rattle.std.proofs.Common.{◌≡◌, ℕ, List, [], ◌∷◌, ◌++◌, IfOk, OnOk, OnErr, Option, Some, None}
use Rattle.std.proofs.Common.{Result, Ok, Err, refl, sym, ap, ◌∙◌, subst, ◌+◌, arith, append-nil}
use Rattle.std.specs.Prelude.{Bool, true, false, if◌then◌else◌}
use Rattle.std.proofs.lemmas.List.{map-append}
use Rattle.std.specs.declared.alloc.AllocError.{AllocError}
use Rattle.relay_events.specs.Kinds.{is_read}
use Rattle.relay_events.specs.declared.event.Event.{Event}
use Rattle.relay_events.specs.declared.event.Event.TheVariants.{Get, GetList}
use Rattle.relay_events.specs.declared.reply.Reply.{Reply}
use Rattle.relay_core.specs.declared.opening.Opening.{Opening}
use Rattle.relay_core.proofs.RunLemmas.{world_after-append}
use Rattle.relay_core.specs.Machine.{at_event}
use Rattle.relay_core.specs.Opening.{world_of_opening}
use Rattle.relay_core.specs.Runs.{world_after}
use Rattle.relay_core.specs.Stands.{StandsFor}
use Rattle.relay_core.specs.World.{World}
use Rattle.relay_recorder.specs.Histories.{Exchange, StandsForHistory, Continues, events_of}
use Rattle.relay_recorder.specs.Recording.{Recording}
use Rattle.text_lines.specs.Words.{line_of}
use Rattle.trace_lines.specs.Writing.{event_row}
use Rattle.turn_lock.specs.declared.turned.Entry.{Entry}
use Rattle.turn_lock.specs.History.{entry}
use Rattle.shared_meter.specs.Calls.{Calls, events_and_replies, switches_of, Stands, HasCalls}
use Rattle.shared_meter.specs.KeptRecorder.{KeptRecorder}
use Rattle.shared_meter.specs.Pending.{PendingView, Pends, PendsIn, event_lines, lines_of_calls}
use Rattle.shared_meter.specs.Switching.{change, is_on, switches_in}
use Rattle.shared_meter.proofs.PendingLemmas.{lines_more}

told_more : (calls : Calls) (call : Entry Event Reply) → events_and_replies (calls ++ call ∷ [])
    ≡ events_and_replies calls ++ (call.event, call.reply) ∷ []
told_more calls call = map-append (λ (c : Entry Event Reply). (c.event, c.reply)) calls (call ∷ [])

-- the meter with this recorder and these pending lines
abbrev pub with_origin : Recording → Opening → Option PendingView → KeptRecorder
with_origin recorder origin pending =
    record { recorder = recorder; origin = origin; pending = pending }

-- a recorder that took an event and replied has one more call, whichever port made it
history_on : (old new : Recording) (origin : Opening) (event : Event) (reply : Reply)
    → Continues old new event reply → (by : List ℕ) (calls : Calls)
    → StandsForHistory old (events_and_replies calls) (world_of_opening origin)
    → StandsForHistory new (events_and_replies (calls ++ entry by event reply ∷ []))
    (world_of_opening origin)
history_on old new origin event reply continues by calls stands =
    subst (λ (history : List Exchange). StandsForHistory new history (world_of_opening origin))
    (sym (told_more calls (entry by event reply)))
    (continues.histories (events_and_replies calls) (world_of_opening origin) stands)

-- the events of a history with one more call
events_more : (calls : Calls) (call : Entry Event Reply)
    → events_of (events_and_replies (calls ++ call ∷ []))
    ≡ events_of (events_and_replies calls) ++ call.event ∷ []
events_more calls call = ap events_of (told_more calls call)
    ∙ map-append (λ (told : Exchange). told.0) (events_and_replies calls)
    ((call.event, call.reply) ∷ [])

-- the changes by one event
abbrev switches_by : World → Event → ℕ
switches_by w event = change (is_on w) (is_on (at_event event w).world)

-- one more event may add a change
changes_more : (w : World) (events : List Event) (event : Event)
    → switches_in w (events ++ event ∷ [])
    ≡ switches_in w events + switches_by (world_after events w) event
changes_more w [] event = omega arith
changes_more w (first ∷ events) event =
    let v = (at_event first w).world in
    let more = changes_more v events event in
    omega (arith, more)

-- the changes by a history with one more call
switches_more : (origin : Opening) (calls : Calls) (call : Entry Event Reply)
    → switches_of origin (calls ++ call ∷ []) ≡ switches_of origin calls + switches_by (world_after
    (events_of (events_and_replies calls)) (world_of_opening origin)) call.event
switches_more origin calls call =
    let w = world_of_opening origin in
    ap (λ (es : List Event). switches_in w es) (events_more calls call)
    ∙ changes_more w (events_of (events_and_replies calls)) call.event

-- the lines of a journal before and after an event
abbrev pub NotesOn : Event → (was is : Recording) → Option PendingView → Option PendingView → Type 0
NotesOn event was is old new = (w : World) → StandsFor was.core w
    → StandsFor is.core (at_event event w).world → (lines : List (List ℕ)) (switches : ℕ)
    → PendsIn old lines switches → PendsIn new (lines ++ event_lines event)
    (switches + change (is_on w) (is_on (at_event event w).world))

no_change : (on : Bool) → change on on ≡ 0
no_change true = refl
no_change false = refl

-- an event that only reads has no line, and changes no output
read_same : (pending : PendingView) (event : Event) (w : World) → is_read event ≡ true
    → (lines : List (List ℕ)) (switches : ℕ) → Pends pending lines switches
    → Pends pending (lines ++ event_lines event) (switches + switches_by w event)
unfolding at_event
read_same pending (Get level attr selected) w read lines switches pends =
    let same : switches ≡ switches + change (is_on w) (is_on w) = omega (arith, no_change (is_on w))
    in subst (Pends pending (lines ++ [])) same
    (subst (λ (ls : List (List ℕ)). Pends pending ls switches) (sym (append-nil lines)) pends)
read_same pending (GetList level items) w read lines switches pends =
    let same : switches ≡ switches + change (is_on w) (is_on w) = omega (arith, no_change (is_on w))
    in subst (Pends pending (lines ++ [])) same
    (subst (λ (ls : List (List ℕ)). Pends pending ls switches) (sym (append-nil lines)) pends)
read_same pending event w read lines switches pends = absurd cc

pub read_noted : (result : Result Reply AllocError) (was is : Recording) (pending : PendingView)
    (event : Event) → is_read event ≡ true → OnOk result ((w : World) → StandsFor was.core w
    → StandsFor is.core (at_event event w).world → (lines : List (List ℕ)) (switches : ℕ)
    → Pends pending lines switches → Pends pending (lines ++ event_lines event)
    (switches + change (is_on w) (is_on (at_event event w).world)))
read_noted (Ok reply) was is pending event read = λ w before after lines switches pends.
    read_same pending event w read lines switches pends
read_noted (Err error) was is pending event read = tt

-- an event that may change the meter has a line
has_line : (event : Event) → is_read event ≡ false
    → event_lines event ≡ line_of (event_row event) ∷ []
has_line event changing =
    ap (λ (read : Bool). if read then [] else line_of (event_row event) ∷ []) changing

-- its line was noted, with the change of the output
pub change_noted : (old new : PendingView) (event : Event) (w : World) (before after : Bool)
    → is_read event ≡ false → before ≡ is_on w → after ≡ is_on (at_event event w).world
    → ((lines : List (List ℕ)) (switches : ℕ) → Pends old lines switches
    → Pends new (lines ++ line_of (event_row event) ∷ []) (switches + change before after))
    → (lines : List (List ℕ)) (switches : ℕ) → Pends old lines switches
    → Pends new (lines ++ event_lines event)
    (switches + change (is_on w) (is_on (at_event event w).world))
change_noted old new event w before after changing was is notes lines switches pends =
    let by : change before after ≡ switches_by w event =
    ap (λ (b : Bool). change b after) was ∙ ap (change (is_on w)) is in
    subst (λ (more : List (List ℕ)). Pends new (lines ++ more) (switches + switches_by w event))
    (sym (has_line event changing))
    (subst (λ n. Pends new (lines ++ line_of (event_row event) ∷ []) (switches + n)) by
    (notes lines switches pends))

-- a meter without a journal has none after an event
pub none_on : (result : Result Reply AllocError) (was is : Recording)
    (pending : Option PendingView) (event : Event) → pending ≡ None
    → OnOk result (NotesOn event was is pending pending)
none_on (Ok reply) was is pending event none = λ w before after lines switches pends.
    subst (λ (p : Option PendingView). PendsIn p (lines ++ event_lines event)
    (switches + switches_by w event)) (sym none) tt
none_on (Err error) was is pending event none = tt

pub none_same : (result : Result Reply AllocError) (pending : Option PendingView)
    → OnErr result (pending ≡ pending)
none_same (Ok reply) pending = tt
none_same (Err error) pending = refl

-- the lines of a journal after an event
pub some_on : (result : Result Reply AllocError) (was is : Recording)
    (pending : Option PendingView) (old new : PendingView) (event : Event) → pending ≡ Some old
    → OnOk result ((w : World) → StandsFor was.core w
    → StandsFor is.core (at_event event w).world → (lines : List (List ℕ)) (switches : ℕ)
    → Pends old lines switches → Pends new (lines ++ event_lines event)
    (switches + change (is_on w) (is_on (at_event event w).world)))
    → OnOk result (NotesOn event was is pending (Some new))
some_on (Ok reply) was is pending old new event some on = λ w before after lines switches pends.
    on w before after lines switches
    (subst (λ (p : Option PendingView). PendsIn p lines switches) some pends)
some_on (Err error) was is pending old new event some on = tt

-- a refused event changes neither the recorder nor the journal
pub some_same : (result : Result Reply AllocError) (pending : Option PendingView)
    (old new : PendingView) (was is : Recording) → pending ≡ Some old
    → OnErr result ((is ≡ was) × (new ≡ old))
    → OnErr result (is ≡ was) × OnErr result (Some new ≡ pending)
some_same (Ok reply) pending old new was is some same = (tt, tt)
some_same (Err error) pending old new was is some same =
    (same.0, ap (λ p. Some p) same.1 ∙ sym some)

-- a meter that took an event and replied has one more call, whichever port made it
pub stands_on : (result : Result Reply AllocError) (old new : Recording) (origin : Opening)
    (was is : Option PendingView) (event : Event) → IfOk result (Continues old new event)
    → OnOk result (NotesOn event old new was is)
    → IfOk result (λ (reply : Reply). (by : List ℕ) (calls : Calls)
    → Stands (with_origin old origin was) calls
    → Stands (with_origin new origin is) (calls ++ entry by event reply ∷ []))
stands_on (Ok reply) old new origin was is event continues notes = λ by calls stands.
    let call = entry by event reply in
    let events = events_of (events_and_replies calls) in
    let w = world_after events (world_of_opening origin) in
    let history = history_on old new origin event reply continues by calls stands.history in
    let later : world_after (events_of (events_and_replies (calls ++ call ∷ [])))
    (world_of_opening origin) ≡ (at_event event w).world =
    ap (λ (es : List Event). world_after es (world_of_opening origin)) (events_more calls call)
    ∙ world_after-append events (event ∷ []) (world_of_opening origin) in
    let core = subst (λ (v : World). StandsFor new.core v) later history.core in
    record {
      history = history;
      pending = subst (λ n. PendsIn is (lines_of_calls (calls ++ call ∷ [])) n)
          (sym (switches_more origin calls call))
          (subst (λ (lines : List (List ℕ)). PendsIn is lines
          (switches_of origin calls + switches_by w event)) (sym (lines_more calls call))
          (notes w stands.history.core core (lines_of_calls calls) (switches_of origin calls)
          stands.pending));
    }
stands_on (Err error) old new origin was is event continues notes = tt

-- a recorder that has taken no event has no calls
pub has_none : (recorder : Recording) (origin : Opening) (pending : Option PendingView)
    → StandsForHistory recorder [] (world_of_opening origin) → PendsIn pending [] 0
    → HasCalls (with_origin recorder origin pending)
has_none recorder origin pending stands pends =
    record { calls = []; stands = record { history = stands; pending = pends } }

-- a meter still has its calls after an event that it took or refused
pub has_still : (result : Result Reply AllocError) (old new : Recording) (origin : Opening)
    (was is : Option PendingView) (event : Event) → IfOk result (Continues old new event)
    → OnOk result (NotesOn event old new was is) → OnErr result (new ≡ old)
    → OnErr result (is ≡ was)
    → HasCalls (with_origin old origin was) → HasCalls (with_origin new origin is)
has_still (Ok reply) old new origin was is event continues notes same kept has = record {
  calls = has.calls ++ entry [] event reply ∷ [];
  stands = stands_on (Ok reply) old new origin was is event continues notes [] has.calls has.stands;
}
has_still (Err error) old new origin was is event continues notes same kept has =
    subst (λ (p : Option PendingView). HasCalls (with_origin new origin p)) (sym kept)
    (subst (λ (r : Recording). HasCalls (with_origin r origin was)) (sym same) has)
