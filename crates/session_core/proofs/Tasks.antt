-- The effect of each task on what the session has yet to ask and to send.
use Rattle.std.proofs.Common.{◌≡◌, ◌≢◌, ℕ, ◌+◌, ◌<◌, ◌≤◌, ◌==◌, ◌&&◌, nat_lt, Bool, true, false, cond, Option, Some, None, Ok, List, [], ◌∷◌, ◌++◌, length, refl, sym, ◌∙◌, ap, arith, inl, inr, subst, take, drop}
use Rattle.std.specs.Prelude.{if◌then◌else◌, option_to_list, IsTrue, IfSome}
use Rattle.std.proofs.lemmas.Bool.{ltb-false}
use Rattle.std.proofs.lemmas.List.{append_assoc, append-nil, length-drop}
use Rattle.acse_ber.specs.Reading.{aarq_of}
use Rattle.relay_events.specs.declared.event.Event.{Event}
use Rattle.relay_events.specs.declared.reply.Reply.{Reply}
use Rattle.session_core.proofs.Meet.{same_from, same_events, same_texts}
use Rattle.session_core.specs.Answers.{answer_text, due_text}
use Rattle.session_core.specs.Backwards.{to_server, end_by, end_of}
use Rattle.session_core.specs.Ends.{EndsWithInput}
use Rattle.session_core.specs.Incoming.{fault_of, outcome_by_fault, block_outcome_of, outcome_by_data, whole_data, whole_outcome, event_by, form_by, later_outcome, transfer_of, no_blocks}
use Rattle.session_core.specs.Outcome.{Outcome, asks, says, Turn, settled, continues, event_of, turn_event}
use Rattle.session_core.specs.Outgoing.{answer_with_header, value_answer, values_answer, outgoing_by, reply_transfer}
use Rattle.session_core.specs.Standard.{management_device}
use Rattle.cosem_axdr.specs.declared.value.Data.{Data}
use Rattle.cosem_names.specs.declared.service.GetResult.{GetResult}
use Rattle.cosem_names.specs.declared.service.GetResult.TheVariants as result
use Rattle.xdlms_apdu.specs.Responses.{response_text}
use Rattle.xdlms_apdu.specs.declared.response.Response.TheVariants as response
use Rattle.session_core.specs.Progress.{events_of_next, Owes, Feeds, Finishes, Steps, Takes, IsQuiet, IsAwaiting, IsOver, WorksBy, task_by, next_by}
use Rattle.session_core.specs.Remaining.{asks_of, texts_of, texts_from, texts_after, ends_of, after_outcome, end_in, is_awaiting, still_asks, still_sends, still_ends, is_asking, reported_end, is_finished, load_of, task_load}
use Rattle.session_core.specs.Roles.{role_of_request, role_of}
use Rattle.session_core.specs.Rules.{heard_frame, exception_answer, is_aarq, call_in, role_in, call_turn, request_turn, turn_in, turn_of, outgoing_by_role, outgoing_in, outgoing_after, outcome_of_turn, outcome_at, state_after, step_outcome, is_settled, opening_answer, reply_text}
use Rattle.session_core.specs.Calls.{is_call}
use Rattle.session_core.specs.Running.{known_in, asks_on, answers_on, new_state}
use Rattle.session_core.specs.declared.asked.Asked.{Asked}
use Rattle.session_core.specs.declared.call.Call.{Call}
use Rattle.session_core.specs.declared.call.Call.TheVariants as call
use Rattle.session_core.specs.declared.due.Due.{Due}
use Rattle.session_core.specs.declared.end.SessionEnd.{SessionEnd}
use Rattle.session_core.specs.declared.framed_answer.FramedAnswer.{FramedAnswer}
use Rattle.session_core.specs.declared.end.SessionEnd.TheVariants as ending
use Rattle.session_core.specs.declared.incoming.Incoming.{Incoming}
use Rattle.session_core.specs.declared.incoming.LongService.{LongService}
use Rattle.session_core.specs.declared.incoming.LongService.TheVariants as service
use Rattle.session_core.specs.declared.incoming.Purpose.{Purpose}
use Rattle.session_core.specs.declared.incoming.Purpose.TheVariants as purpose
use Rattle.session_core.specs.declared.joined.Joined.{Joined}
use Rattle.session_core.specs.declared.link.Link.{Link}
use Rattle.session_core.specs.declared.next.Next.{Next}
use Rattle.session_core.specs.declared.next.Next.TheVariants as next
use Rattle.session_core.specs.declared.session.Session.{Session}
use Rattle.session_core.specs.declared.state.State.{State}
use Rattle.session_core.specs.declared.step.TurnStep.{TurnStep}
use Rattle.session_core.specs.declared.step.TurnStep.TheVariants as step
use Rattle.session_core.specs.declared.task.SessionTask.{SessionTask}
use Rattle.session_core.specs.declared.task.SessionTask.TheVariants.{Listen, Read, Await, Say, Send, Over}
use Rattle.wrapper_frame.specs.Header.{head_of, header_size, src_of, dst_of}
use Rattle.wrapper_frame.specs.Messages.{frames_of, rest_of, first_frame, after_first}
use Rattle.wrapper_frame.specs.Stream.{IsPart, Fronts, KeepsFrames, Stops, StopsBy}
use Rattle.wrapper_frame.specs.declared.fault.WrapperFault.{WrapperFault}
use Rattle.wrapper_frame.specs.declared.fault.WrapperFault.TheVariants as fault
use Rattle.wrapper_frame.specs.declared.header.Head.{Head}
use Rattle.wrapper_frame.specs.declared.header.Head.TheVariants as head
use Rattle.wrapper_frame.specs.declared.parts.Frame.{Frame}
use Rattle.xdlms_apdu.specs.declared.block.DataBlock.{DataBlock}
use Rattle.xdlms_apdu.specs.declared.invoke_id.InvokeId.{InvokeId}
use Rattle.xdlms_apdu.specs.declared.request.Request.{Request}
use Rattle.xdlms_apdu.specs.declared.response.Exception.TheVariants.{NotAllowed, Unknown}
use Rattle.xdlms_apdu.specs.declared.request.Request.TheVariants as request
use Rattle.xdlms_blocks.specs.Transfer.{Sending, Joining}

-- ---- how a reply changes the state that a frame leaves

-- the long GET after an outcome, and after the reply to its event
abbrev sending_with : Outcome → Option Reply → Option Sending → Option Sending
sending_with (says to answer) reply outgoing = outgoing
sending_with (asks event asked) None outgoing = outgoing
sending_with (asks event asked) (Some reply) outgoing = outgoing_by asked reply

-- a value that arrived in blocks begins no long GET
read_by : (link : Link) (p : Purpose) (id : InvokeId) (number : ℕ) (reply : Option Reply)
    (event : Event)
    → None ≡ sending_with (asks event (record {
      link = link;
      form = form_by p id number;
    })) reply None
unfolding reply_transfer
read_by link (purpose.Set target) id number None event = refl
read_by link (purpose.Set target) id number (Some reply) event = refl
read_by link (purpose.Action method) id number None event = refl
read_by link (purpose.Action method) id number (Some reply) event = refl

read_whole : (joined : Joined) (reply : Option Reply) → None
    ≡ sending_with (whole_outcome joined) reply None
unfolding whole_outcome
read_whole joined reply =
    elim (whole_data joined.bytes)
    as (λ d. None ≡ sending_with (outcome_by_data joined d) reply None) [
      | Some value ↦ read_by joined.link joined.purpose joined.id joined.number reply
          (event_by joined.link.level joined.purpose value)
      | None ↦ refl
    ]

block_by : (link : Link) (id : InvokeId) (p : Purpose) (block : DataBlock) (j : Joining)
    (reply : Option Reply) → None ≡ sending_with (block_outcome_of link id p block j) reply None
unfolding block_outcome_of
block_by link id p block j reply =
    elim (fault_of block j) as (λ f. None ≡ sending_with (outcome_by_fault link id p block j f)
    reply None) [
      | Some fault ↦ refl
      | None ↦ last_by block.last
    ]
  where
    last_by : (last : Bool) → None ≡ sending_with
        (outcome_by_fault link id p (record { last = last; number = block.number; raw = block.raw })
        j None) reply None
    last_by true = read_whole _ reply
    last_by false = refl

later_by : (link : Link) (s : LongService) (id : InvokeId) (block : DataBlock)
    (transfer : Option Incoming) (reply : Option Reply) → None
    ≡ sending_with (later_outcome link s id block transfer) reply None
later_by link s id block None reply = refl
later_by link s id block (Some incoming) reply =
    block_by link id incoming.purpose block incoming.blocks reply

request_by : (link : Link) (incoming : Option Incoming) (outgoing : Option Sending)
    (reply : Option Reply) (r : Request)
    → outgoing_by_role link (role_of_request r) reply outgoing
    ≡ sending_with (outcome_of_turn outgoing (request_turn link incoming r)) reply
    (outgoing_by_role link (role_of_request r) None outgoing)
unfolding reply_transfer
request_by link incoming outgoing None (request.Get id target) = refl
request_by link incoming outgoing (Some reply) (request.Get id target) = refl
request_by link incoming outgoing reply (request.GetNext id number) = refl
request_by link incoming outgoing None (request.GetList id targets) = refl
request_by link incoming outgoing (Some reply) (request.GetList id targets) = refl
request_by link incoming outgoing None (request.Set id target value) = refl
request_by link incoming outgoing (Some reply) (request.Set id target value) = refl
request_by link incoming outgoing reply (request.SetFirst id target block) =
    block_by link id (purpose.Set target) block no_blocks reply
request_by link incoming outgoing reply (request.SetNext id block) =
    later_by link service.Set id block (transfer_of service.Set incoming) reply
request_by link incoming outgoing None (request.Action id method parameter) = refl
request_by link incoming outgoing (Some reply) (request.Action id method parameter) = refl
request_by link incoming outgoing reply (request.ActionFirst id method block) =
    block_by link id (purpose.Action method) block no_blocks reply
request_by link incoming outgoing reply (request.ActionNext id block) =
    later_by link service.Action id block (transfer_of service.Action incoming) reply

call_by : (link : Link) (incoming : Option Incoming) (outgoing : Option Sending)
    (reply : Option Reply) (c : Call)
    → outgoing_by_role link (role_of c) reply outgoing
    ≡ sending_with (outcome_of_turn outgoing (call_turn link incoming c)) reply
    (outgoing_by_role link (role_of c) None outgoing)
call_by link incoming outgoing reply call.Release = refl
call_by link incoming outgoing reply (call.Service r) = request_by link incoming outgoing reply r
call_by link incoming outgoing reply (call.Refused exception) = refl

-- the long GET after a service, by whether the frame is from the client of the association
client_by : (link : Link) (incoming : Option Incoming) (outgoing : Option Sending)
    (reply : Option Reply) (f : Frame) (here : Bool)
    → (if true && here then outgoing_by_role link (role_in link f) reply outgoing else outgoing)
    ≡ sending_with (outcome_of_turn outgoing (if here then call_turn link incoming
    (call_in link f) else settled (says f.src (exception_answer NotAllowed)))) reply (if true
    && here then outgoing_by_role link (role_in link f) None outgoing else outgoing)
client_by link incoming outgoing reply f true =
    call_by link incoming outgoing reply (call_in link f)
client_by link incoming outgoing reply f false = refl

-- the long GET after a frame, by whether it is a request
called_by : (link : Option Link) (incoming : Option Incoming) (outgoing : Option Sending)
    (reply : Option Reply) (f : Frame) (calls : Bool) → is_call f.payload ≡ calls
    → outgoing_in link f reply outgoing
    ≡ sending_with (outcome_of_turn outgoing (if calls then turn_in link incoming f else settled
    (says f.src (exception_answer Unknown)))) reply (outgoing_in link f None outgoing)
called_by None incoming outgoing reply f true e = refl
called_by None incoming outgoing reply f false e = refl
called_by (Some link) incoming outgoing reply f true e =
    ap (λ (b : Bool). if b && link.source == f.src then outgoing_by_role link
    (role_in link f) reply outgoing else outgoing) e
    ∙ client_by link incoming outgoing reply f (link.source == f.src)
    ∙ ap (λ (b : Bool). sending_with (outcome_of_turn outgoing (turn_in (Some link) incoming f))
    reply (if b && link.source == f.src then outgoing_by_role link
    (role_in link f) None outgoing else outgoing)) (sym e)
called_by (Some link) incoming outgoing reply f false e =
    ap (λ (b : Bool). if b && link.source == f.src then outgoing_by_role link
    (role_in link f) reply outgoing else outgoing) e
    ∙ ap (λ (b : Bool). if b && link.source == f.src then outgoing_by_role link
    (role_in link f) None outgoing else outgoing) (sym e)

opened_or : (password : List ℕ) (s : State) (f : Frame) (reply : Option Reply) (o : Bool)
    → (if o then None else outgoing_in s.link f reply s.outgoing)
    ≡ sending_with (outcome_of_turn s.outgoing
    (if o then settled (says f.src (opening_answer password f.src (aarq_of f.payload)))
    else if is_call f.payload then turn_in s.link s.incoming f else settled
    (says f.src (exception_answer Unknown)))) reply
    (if o then None else outgoing_in s.link f None s.outgoing)
opened_or password s f reply true = refl
opened_or password s f reply false = called_by s.link s.incoming s.outgoing reply f
    (is_call f.payload) refl

sending_after : (password : List ℕ) (s : State) (f : Frame) (reply : Option Reply)
    → outgoing_after s.link f reply s.outgoing
    ≡ sending_with (outcome_at password s f) reply (outgoing_after s.link f None s.outgoing)
unfolding turn_of outgoing_after
sending_after password s f reply = opened_or password s f reply (is_aarq f)

-- the state after an outcome, in terms of the long GET
after_by : (outcome : Outcome) (reply : Option Reply) (state : State)
    → after_outcome outcome reply state ≡ record {
      link = state.link;
      incoming = state.incoming;
      outgoing = sending_with outcome reply state.outgoing;
    }
after_by (says to answer) reply state = refl
after_by (asks event asked) None state = refl
after_by (asks event asked) (Some reply) state = refl

-- the state after a frame and a reply is the state after the frame, changed by the reply
replied_after : (password : List ℕ) (s : State) (f : Frame) (reply : Option Reply)
    → state_after password s f reply ≡ after_outcome (outcome_at password s f) reply
    (state_after password s f None)
replied_after password s f reply =
    let a = after_by (outcome_at password s f) reply (state_after password s f None) in
    let b = sending_after password s f reply in
    cc

-- ---- the step of one frame, or of joined bytes

-- the texts of a frame are those of its outcome
frame_texts : (password : List ℕ) (s : State) (f : Frame) (fs : List Frame) (replies : List Reply)
    → answers_on password s (f ∷ fs) replies ≡ texts_from password (state_after password s f None)
    (outcome_at password s f) fs replies
frame_texts password s f fs replies =
    same_from (outcome_at password s f) _ _ (λ reply rest. ap
    (λ (t : State). answers_on password t fs rest) (replied_after password s f reply)) replies

awaited_texts : (password : List ℕ) (s : State) (event : Event) (asked : Asked) (fs : List Frame)
    (replies : List Reply)
    → texts_from password s (asks event asked) fs replies ≡ texts_after password s asked fs replies
awaited_texts password s event asked fs [] = refl
awaited_texts password s event asked fs (reply ∷ replies) = refl

step_texts : (password : List ℕ) (s : State) (st : TurnStep) (fs : List Frame)
    (replies : List Reply)
    → texts_from password s (step_outcome st) fs replies
    ≡ texts_of password s (task_by st) fs replies
step_texts password s (step.Ask event asked) fs replies =
    awaited_texts password s event asked fs replies
step_texts password s (step.Say due) fs replies = refl
step_texts password s (step.Join joined) fs replies = refl

-- the event of a frame is the event of its outcome
turn_asks : (outgoing : Option Sending) (t : Turn) → turn_event t
    ≡ event_of (outcome_of_turn outgoing t)
turn_asks outgoing (settled outcome) = refl
turn_asks outgoing (continues to id number) = refl

frame_asks : (password : List ℕ) (s : State) (f : Frame) (fs : List Frame)
    → asks_on password (known_in s) (f ∷ fs) ≡ option_to_list (event_of (outcome_at password s f))
    ++ asks_on password (known_in (state_after password s f None)) fs
frame_asks password s f fs =
    ap (λ (event : Option Event). option_to_list event
    ++ asks_on password (known_in (state_after password s f None)) fs)
    (turn_asks s.outgoing (turn_of password s.link s.incoming f))

-- the events that a step asks
abbrev asked_in : Option Next → List Event
asked_in None = []
asked_in (Some next) = events_of_next next

step_asks : (password : List ℕ) (s : State) (st : TurnStep) (fs : List Frame)
    → option_to_list (event_of (step_outcome st)) ++ asks_on password (known_in s) fs
    ≡ asked_in (next_by st) ++ asks_of password s (task_by st) fs
step_asks password s (step.Ask event asked) fs = refl
step_asks password s (step.Say due) fs = refl
step_asks password s (step.Join joined) fs = refl

-- ---- the tasks

-- a session made of these parts
abbrev session : List ℕ → List ℕ → Bool → State → SessionTask → Session
session password pending finished state task = record {
  password = password;
  deframer = pending;
  is_finished = finished;
  state = state;
  task = task;
}

-- the bytes yet to come
abbrev tail : Bool → List ℕ → List ℕ
tail finished more = if finished then [] else more

task_ends : (st : TurnStep) (end : SessionEnd) → ends_of (task_by st) end ≡ end
task_ends (step.Ask event asked) end = refl
task_ends (step.Say due) end = refl
task_ends (step.Join joined) end = refl

-- A task leads to a step that has the task's events and texts.
record ComesTo (password : List ℕ) (s : State) (task : SessionTask) (t : State)
    (st : TurnStep) : Type 0 where
  asks : (fs : List Frame) → asks_of password s task fs
      ≡ option_to_list (event_of (step_outcome st)) ++ asks_on password (known_in t) fs
  texts : (fs : List Frame) (replies : List Reply) → texts_of password s task fs replies
      ≡ texts_from password t (step_outcome st) fs replies
  ends : (end : SessionEnd) → ends_of task end ≡ end

steps_to : (password pending : List ℕ) (finished : Bool) (s t : State) (task : SessionTask)
    (st : TurnStep) → ComesTo password s task t st
    → Steps (session password pending finished s task) (asked_in (next_by st)) []
    (session password pending finished t (task_by st))
unfolding still_asks still_sends still_ends is_finished
steps_to password pending finished s t task st c = record {
  asks = λ more. c.asks (to_server (frames_of (pending ++ tail finished more)))
      ∙ step_asks password t st (to_server (frames_of (pending ++ tail finished more)));
  sends = λ more replies. c.texts (to_server (frames_of (pending ++ tail finished more))) replies
      ∙ step_texts password t st (to_server (frames_of (pending ++ tail finished more))) replies;
  ends = λ more. c.ends (end_of (pending ++ tail finished more))
      ∙ sym (task_ends st (end_of (pending ++ tail finished more)));
  finished = refl;
}

works_to : (E : Type 0) (password pending : List ℕ) (finished : Bool) (s t : State)
    (task : SessionTask) (st : TurnStep) → ComesTo password s task t st
    → task_load (task_by st) < task_load task
    → WorksBy {E = E} (session password pending finished s task) (Ok (next_by st))
    (session password pending finished t (task_by st))
unfolding load_of is_asking still_sends
works_to E password pending finished s t task (step.Ask event asked) c less = (
  steps_to password pending finished s t task (step.Ask event asked) c,
  (record { asking = refl; sends = λ more. refl }, omega arith),
)
works_to E password pending finished s t task (step.Say due) c less =
    (steps_to password pending finished s t task (step.Say due) c, (refl, omega arith))
works_to E password pending finished s t task (step.Join joined) c less =
    (steps_to password pending finished s t task (step.Join joined) c, (refl, omega arith))

read_load : (st : TurnStep) → IsTrue (is_settled st) → task_load (task_by st) < 4
read_load (step.Ask event asked) done = omega arith
read_load (step.Say due) done = omega arith
read_load (step.Join joined) done = absurd cc

-- joined bytes are decoded
pub reads : (E : Type 0) (password pending : List ℕ) (finished : Bool) (s : State) (joined : Joined)
    (st : TurnStep)
    → step_outcome st ≡ whole_outcome joined → IsTrue (is_settled st)
    → WorksBy {E = E} (session password pending finished s (Read joined)) (Ok (next_by st))
    (session password pending finished s (task_by st))
reads E password pending finished s joined st outcome done =
    works_to E password pending finished s s (Read joined) st
    (record {
      asks = λ fs. ap (λ (o : Outcome). option_to_list (event_of o)
          ++ asks_on password (known_in s) fs) (sym outcome);
      texts = λ fs replies. ap (λ (o : Outcome). texts_from password s o fs replies) (sym outcome);
      ends = λ end. refl;
    })
    (read_load st done)

says_steps : (password pending : List ℕ) (finished : Bool) (s : State) (due : Due) (text : List ℕ)
    → text ≡ due_text due.to (answer_text due.answer)
    → Steps (session password pending finished s (Say due)) [] (text
    ∷ []) (session password pending finished s Listen)
unfolding still_asks still_sends still_ends is_finished
says_steps password pending finished s due text e = record {
  asks = λ more. refl;
  sends = λ more replies. ap (λ (t : List ℕ). t
      ∷ answers_on password s (to_server (frames_of (pending ++ tail finished more))) replies) (sym
      e);
  ends = λ more. refl;
  finished = refl;
}

-- an answer is written
pub says_text : (E : Type 0) (password pending : List ℕ) (finished : Bool) (s : State) (due : Due)
    (text : List ℕ) → text ≡ due_text due.to (answer_text due.answer)
    → WorksBy {E = E} (session password pending finished s (Say due)) (Ok (Some (next.Send text)))
    (session password pending finished s Listen)
unfolding still_asks still_sends still_ends is_finished is_asking load_of
says_text E password pending finished s due text e =
    (says_steps password pending finished s due text e, (refl, omega arith))

gives_steps : (password pending : List ℕ) (finished : Bool) (s : State) (framed : FramedAnswer)
    → Steps (session password pending finished s (Send framed)) [] (framed.text
    ∷ []) (session password pending finished s Listen)
unfolding still_asks still_sends still_ends is_finished
gives_steps password pending finished s framed = record {
  asks = λ more. refl;
  sends = λ more replies. refl;
  ends = λ more. refl;
  finished = refl;
}

-- a frame is returned
pub gives_text : (E : Type 0) (password pending : List ℕ) (finished : Bool) (s : State)
    (framed : FramedAnswer)
    → WorksBy {E = E} (session password pending finished s (Send framed))
    (Ok (Some (next.Send framed.text))) (session password pending finished s Listen)
unfolding still_asks still_sends still_ends is_finished is_asking load_of
gives_text E password pending finished s framed =
    (gives_steps password pending finished s framed, (refl, omega arith))

-- no change is a step without events and texts
pub stays : (s : Session) → Steps s [] [] s
stays s = record {
  asks = λ more. refl;
  sends = λ more replies. refl;
  ends = λ more. refl;
  finished = refl;
}

-- a reply is awaited
pub awaits_reply : (E : Type 0) (password pending : List ℕ) (finished : Bool) (s : State)
    (asked : Asked)
    → WorksBy {E = E} (session password pending finished s (Await asked)) (Ok (Some next.Wait))
    (session password pending finished s (Await asked))
unfolding is_asking still_sends
awaits_reply E password pending finished s asked = (
  stays (session password pending finished s (Await asked)),
  inl (refl, record { asking = refl; sends = λ more. refl }),
)

-- ---- frames are taken

-- a whole frame has a header
long_by : (b : Bool) (bytes : List ℕ) (n : ℕ) (h : Head) → nat_lt (length bytes) header_size ≡ b
    → (if b then head.Part else h) ≡ head.Whole n → header_size ≤ length bytes
long_by true bytes n h short e = absurd cc
long_by false bytes n h short e = ltb-false (length bytes) header_size short

long : (bytes : List ℕ) (n : ℕ) → head_of bytes ≡ head.Whole n → header_size ≤ length bytes
unfolding head_of
long bytes n e = long_by (nat_lt (length bytes) header_size) bytes n _ refl e

shorter : (old : List ℕ) (n : ℕ) (new : List ℕ) → head_of old ≡ head.Whole n → new
    ≡ after_first n old → length new + header_size ≤ length old
shorter old n new whole after =
    let enough = long old n whole in
    let size = length-drop (header_size + n) old in
    let same : length new ≡ length (after_first n old) = ap length after in
    omega (arith, enough, size, same)

to_server_by : (b : Bool) (frame : Frame) (fs : List Frame) → (frame.dst == management_device) ≡ b
    → to_server (frame ∷ fs) ≡ cond b (frame ∷ to_server fs) (to_server fs)
to_server_by b frame fs e = ap (λ (c : Bool). cond c (frame ∷ to_server fs) (to_server fs)) e

-- the end of a stream depends only on the bytes after its frames
ends_alike : (bytes others : List ℕ) → rest_of bytes ≡ rest_of others → end_of bytes ≡ end_of others
unfolding end_of
ends_alike bytes others e = ap (λ (rest : List ℕ). end_by (head_of rest) rest) e

-- a frame for the server is handled
hears_steps : (password old new : List ℕ) (finished : Bool) (s t : State) (f : Frame)
    (st : TurnStep) → KeepsFrames old (Some f) new → (f.dst == management_device) ≡ true
    → ((fs : List Frame) → asks_on password (known_in s) (f ∷ fs)
    ≡ option_to_list (event_of (step_outcome st)) ++ asks_on password (known_in t) fs)
    → ((fs : List Frame) (replies : List Reply) → answers_on password s (f ∷ fs) replies
    ≡ texts_from password t (step_outcome st) fs replies)
    → Steps (session password old finished s Listen) (asked_in (next_by st)) []
    (session password new finished t (task_by st))
unfolding still_asks still_sends still_ends is_finished
hears_steps password old new finished s t f st goes_on here events texts = record {
  asks = λ more. ap (λ (fs : List Frame). asks_on password (known_in s) (to_server fs))
      (goes_on.frames (tail finished more))
      ∙ ap (asks_on password (known_in s)) (to_server_by true f
      (frames_of (new ++ tail finished more)) here)
      ∙ events (to_server (frames_of (new ++ tail finished more)))
      ∙ step_asks password t st (to_server (frames_of (new ++ tail finished more)));
  sends = λ more replies. ap (λ (fs : List Frame). answers_on password s (to_server fs) replies)
      (goes_on.frames (tail finished more))
      ∙ ap (λ (heard : List Frame). answers_on password s heard replies)
      (to_server_by true f (frames_of (new ++ tail finished more)) here)
      ∙ texts (to_server (frames_of (new ++ tail finished more))) replies
      ∙ step_texts password t st (to_server (frames_of (new ++ tail finished more))) replies;
  ends = λ more. ends_alike (old ++ tail finished more) (new ++ tail finished more)
      (goes_on.rest (tail finished more)) ∙ sym (task_ends st (end_of (new ++ tail finished more)));
  finished = refl;
}

heard_load : (old new : ℕ) (st : TurnStep) → new + header_size ≤ old → new
    + task_load (task_by st) < old + task_load Listen
heard_load old new (step.Ask event asked) less = omega arith
heard_load old new (step.Say due) less = omega arith
heard_load old new (step.Join joined) less = omega arith

heard_by : (E : Type 0) (password old new : List ℕ) (finished : Bool) (s t : State) (st : TurnStep)
    → Steps (session password old finished s Listen) (asked_in (next_by st)) []
    (session password new finished t (task_by st))
    → length new + task_load (task_by st) < length old + task_load Listen
    → WorksBy {E = E} (session password old finished s Listen) (Ok (next_by st))
    (session password new finished t (task_by st))
unfolding load_of is_asking still_sends
heard_by E password old new finished s t (step.Ask event asked) steps less =
    (steps, (record { asking = refl; sends = λ more. refl }, less))
heard_by E password old new finished s t (step.Say due) steps less = (steps, (refl, less))
heard_by E password old new finished s t (step.Join joined) steps less = (steps, (refl, less))

pub hears : (E : Type 0) (password old new : List ℕ) (finished : Bool) (s t : State) (f : Frame)
    (n : ℕ) (st : TurnStep)
    → head_of old ≡ head.Whole n → new ≡ after_first n old → KeepsFrames old (Some f) new
    → (f.dst == management_device) ≡ true
    → step_outcome st ≡ outcome_at password s f → t ≡ state_after password s f None
    → WorksBy {E = E} (session password old finished s Listen) (Ok (next_by st))
    (session password new finished t (task_by st))
hears E password old new finished s t f n st whole after goes_on here outcome state =
    heard_by E password old new finished s t st
    (hears_steps password old new finished s t f st goes_on here
    (λ fs. frame_asks password s f fs ∙ (let a = outcome in let b = state in cc))
    (λ fs replies. frame_texts password s f fs replies ∙ (let a = outcome in let b = state in cc)))
    (heard_load (length old) (length new) st (shorter old n new whole after))

-- a frame for another port is dropped
pub passes_frame : (E : Type 0) (password old new : List ℕ) (finished : Bool) (s : State)
    (f : Frame) (n : ℕ)
    → head_of old ≡ head.Whole n → new ≡ after_first n old → KeepsFrames old (Some f) new
    → (f.dst == management_device) ≡ false
    → WorksBy {E = E} (session password old finished s Listen) (Ok None)
    (session password new finished s Listen)
unfolding still_asks still_sends still_ends is_finished load_of is_asking
passes_frame E password old new finished s f n whole after goes_on elsewhere = (
  (record {
    asks = λ more. ap (λ (fs : List Frame). asks_on password (known_in s) (to_server fs))
        (goes_on.frames (tail finished more))
        ∙ ap (asks_on password (known_in s)) (to_server_by false f
        (frames_of (new ++ tail finished more)) elsewhere);
    sends = λ more replies. ap (λ (fs : List Frame). answers_on password s (to_server fs) replies)
        (goes_on.frames (tail finished more))
        ∙ ap (λ (heard : List Frame). answers_on password s heard replies)
        (to_server_by false f (frames_of (new ++ tail finished more)) elsewhere);
    ends = λ more. ends_alike (old ++ tail finished more) (new ++ tail finished more)
        (goes_on.rest (tail finished more));
    finished = refl;
  }),
  (refl, (let less = shorter old n new whole after in omega arith)),
)

-- part of a frame is not an invalid header
part_ends : (bytes : List ℕ) → EndsWithInput (end_by head.Part bytes)
part_ends [] = tt
part_ends (byte ∷ bytes) = tt

-- the end of an input that ends in part of a frame
end_of_part : (bytes : List ℕ) → IsPart bytes → end_of (bytes ++ []) ≡ end_by head.Part bytes
unfolding end_of
end_of_part bytes part =
    ap (λ (all : List ℕ). end_by (head_of (rest_of all)) (rest_of all)) (append-nil bytes)
    ∙ ap (λ (rest : List ℕ). end_by (head_of rest) rest) part.rest
    ∙ ap (λ (h : Head). end_by h bytes) part.front

is_quiet : (password pending : List ℕ) (s : State) → IsPart pending
    → IsQuiet (session password pending false s Listen)
unfolding still_asks still_sends still_ends is_asking is_finished
is_quiet password pending s part = record {
  asks = ap (λ (fs : List Frame). asks_on password (known_in s) (to_server fs))
      (ap frames_of (append-nil pending) ∙ part.frames);
  sends = λ replies. ap (λ (fs : List Frame). answers_on password s (to_server fs) replies)
      (ap frames_of (append-nil pending) ∙ part.frames);
  ends = subst EndsWithInput (sym (end_of_part pending part)) (part_ends pending);
  silent = refl;
  goes_on = refl;
}

-- with part of a frame, the session waits for more input
pub wants_more : (E : Type 0) (password pending : List ℕ) (s : State) → IsPart pending
    → WorksBy {E = E} (session password pending false s Listen) (Ok (Some next.Wait))
    (session password pending false s Listen)
wants_more E password pending s part = (
  stays (session password pending false s Listen),
  inr (is_quiet password pending s part),
)

-- There is no whole frame, and there never will be.
pub record NoFrame (finished : Bool) (pending : List ℕ) (end : SessionEnd) : Type 0 where
  pub frames : (more : List ℕ) → frames_of (pending ++ tail finished more) ≡ []
  pub ends : (more : List ℕ) → end_of (pending ++ tail finished more) ≡ end

ends_steps : (password pending : List ℕ) (finished : Bool) (s : State) (end : SessionEnd)
    → NoFrame finished pending end
    → Steps (session password pending finished s Listen) [] []
    (session password pending finished s (Over end))
unfolding still_asks still_sends still_ends is_finished
ends_steps password pending finished s end none = record {
  asks = λ more. ap (λ (fs : List Frame). asks_on password (known_in s) (to_server fs))
      (none.frames more);
  sends = λ more replies. ap (λ (fs : List Frame). answers_on password s (to_server fs) replies)
      (none.frames more);
  ends = λ more. none.ends more;
  finished = refl;
}

is_over_now : (password pending : List ℕ) (finished : Bool) (s : State) (end : SessionEnd)
    → IsOver end (session password pending finished s (Over end))
unfolding still_asks still_sends still_ends reported_end
is_over_now password pending finished s end =
    record { asks = λ more. refl; sends = λ more replies. refl; ends = λ more. refl; over = refl }

pub comes_to_end : (E : Type 0) (password pending : List ℕ) (finished : Bool) (s : State)
    (end : SessionEnd) → NoFrame finished pending end
    → WorksBy {E = E} (session password pending finished s Listen) (Ok (Some (next.End end)))
    (session password pending finished s (Over end))
comes_to_end E password pending finished s end none =
    (ends_steps password pending finished s end none, is_over_now password pending finished s end)

-- a session that is over
pub is_over : (E : Type 0) (password pending : List ℕ) (finished : Bool) (s : State)
    (end : SessionEnd)
    → WorksBy {E = E} (session password pending finished s (Over end)) (Ok (Some (next.End end)))
    (session password pending finished s (Over end))
is_over E password pending finished s end = (
  stays (session password pending finished s (Over end)),
  is_over_now password pending finished s end,
)

-- the input ended between two frames, or within one
end_in_part : (bytes : List ℕ) (end : SessionEnd) → IsPart bytes → end_by head.Part bytes ≡ end
    → NoFrame true bytes end
unfolding end_of
end_in_part bytes end part e = record {
  frames = λ more. ap frames_of (append-nil bytes) ∙ part.frames;
  ends = λ more. ap (λ (rest : List ℕ). end_by (head_of rest) rest) (ap rest_of (append-nil bytes)
      ∙ part.rest) ∙ ap (λ (h : Head). end_by h bytes) part.front ∙ e;
}

pub is_closed : (bytes : List ℕ) → IsPart bytes → bytes ≡ [] → NoFrame true bytes ending.Closed
is_closed bytes part e = end_in_part bytes ending.Closed part (ap (end_by head.Part) e)

cut_by : (bytes : List ℕ) → bytes ≢ [] → end_by head.Part bytes ≡ ending.Cut
cut_by [] some = absurd (some refl)
cut_by (byte ∷ bytes) some = refl

pub is_cut : (bytes : List ℕ) → IsPart bytes → bytes ≢ [] → NoFrame true bytes ending.Cut
is_cut bytes part some = end_in_part bytes ending.Cut part (cut_by bytes some)

-- an invalid header
stops_by : (finished : Bool) (bytes : List ℕ) (front : Head) (end : SessionEnd) → Stops front bytes
    → ((rest : List ℕ) → end_by front rest ≡ end) → NoFrame finished bytes end
unfolding end_of
stops_by finished bytes front end stops e = record {
  frames = λ more. stops.frames (tail finished more);
  ends = λ more.
      ap (λ (rest : List ℕ). end_by (head_of rest) rest) (stops.rest (tail finished more))
      ∙ ap (λ (h : Head). end_by h (bytes ++ tail finished more)) (stops.heads (tail finished more))
      ∙ e (bytes ++ tail finished more);
}

pub is_bad_version : (finished : Bool) (bytes : List ℕ) → Stops head.BadVersion bytes
    → NoFrame finished bytes ending.BadVersion
is_bad_version finished bytes stops = stops_by finished bytes head.BadVersion ending.BadVersion
    stops (λ rest. refl)

pub is_too_long : (finished : Bool) (bytes : List ℕ) → Stops head.TooLong bytes
    → NoFrame finished bytes ending.TooLong
is_too_long finished bytes stops = stops_by finished bytes head.TooLong ending.TooLong stops
    (λ rest. refl)

-- ---- the calls

pub fresh : (password : List ℕ) → Owes password (session password [] false new_state Listen)
unfolding still_asks still_sends still_ends is_asking is_finished
fresh password = record {
  asks = λ input. sym (same_events password input);
  sends = λ input replies. sym (same_texts password input replies);
  ends = λ input. refl;
  silent = refl;
  goes_on = refl;
}

pub fresh_by : (password p pending : List ℕ) (s : State) → p ≡ password → pending ≡ [] → s
    ≡ new_state → Owes password (session p pending false s Listen)
fresh_by password p pending s same empty none = rw (same, empty, none) (fresh password)

-- after the end of the input no bytes are taken
pub feeds_finished : (password pending : List ℕ) (s : State) (task : SessionTask) (bytes : List ℕ)
    → Feeds (session password pending true s task) bytes (session password pending true s task)
unfolding still_asks still_sends still_ends
feeds_finished password pending s task bytes = record {
  asks = λ more. refl;
  sends = λ more replies. refl;
  ends = λ more. refl;
  asking = refl;
  over = refl;
  finished = refl;
}

-- once the session is over no bytes are taken
pub feeds_over : (password pending : List ℕ) (finished : Bool) (s : State) (end : SessionEnd)
    (bytes : List ℕ)
    → Feeds (session password pending finished s (Over end)) bytes
    (session password pending finished s (Over end))
unfolding still_asks still_sends still_ends
feeds_over password pending finished s end bytes = record {
  asks = λ more. refl;
  sends = λ more replies. refl;
  ends = λ more. refl;
  asking = refl;
  over = refl;
  finished = refl;
}

pub feeds : (password pending : List ℕ) (s : State) (task : SessionTask) (bytes : List ℕ)
    → Feeds (session password pending false s task) bytes
    (session password (pending ++ bytes) false s task)
unfolding still_asks still_sends still_ends is_asking reported_end is_finished
feeds password pending s task bytes = record {
  asks = λ more. ap (λ (all : List ℕ). asks_of password s task (to_server (frames_of all)))
      (append_assoc pending bytes more);
  sends = λ more replies. ap (λ (all : List ℕ). texts_of password s task (to_server (frames_of all))
      replies) (append_assoc pending bytes more);
  ends = λ more. ap (λ (all : List ℕ). ends_of task (end_of all)) (append_assoc pending bytes more);
  asking = refl;
  over = refl;
  finished = refl;
}

-- after an invalid header no bytes are taken
feeds_none : (password pending : List ℕ) (s : State) (task : SessionTask) (bytes : List ℕ)
    (end : SessionEnd) → NoFrame false pending end
    → Feeds (session password pending false s task) bytes (session password pending false s task)
unfolding still_asks still_sends still_ends
feeds_none password pending s task bytes end none = record {
  asks = λ more. ap (λ (fs : List Frame). asks_of password s task (to_server fs)) (none.frames more
      ∙ sym (none.frames (bytes ++ more)));
  sends = λ more replies. ap (λ (fs : List Frame). texts_of password s task (to_server fs) replies)
      (none.frames more ∙ sym (none.frames (bytes ++ more)));
  ends = λ more. ap (ends_of task) (none.ends more ∙ sym (none.ends (bytes ++ more)));
  asking = refl;
  over = refl;
  finished = refl;
}

tail_none : (finished : Bool) → tail finished [] ≡ []
tail_none true = refl
tail_none false = refl

-- the input has ended
pub finishes : (password pending : List ℕ) (finished : Bool) (s : State) (task : SessionTask)
    → Finishes (session password pending finished s task) (session password pending true s task)
unfolding still_asks still_sends still_ends is_asking reported_end is_finished
finishes password pending finished s task = record {
  asks = λ more. ap (λ (rest : List ℕ). asks_of password s task
      (to_server (frames_of (pending ++ rest)))) (sym (tail_none finished));
  sends = λ more replies. ap (λ (rest : List ℕ). texts_of password s task
      (to_server (frames_of (pending ++ rest))) replies) (sym (tail_none finished));
  ends = λ more. ap (λ (rest : List ℕ). ends_of task (end_of (pending ++ rest)))
      (sym (tail_none finished));
  asking = refl;
  over = refl;
  finished = refl;
}

-- a reply is taken in
pub takes_reply : (password pending : List ℕ) (finished : Bool) (s : State) (asked : Asked)
    (reply : Reply) (framed : FramedAnswer) (outgoing : Option Sending)
    → framed.text ≡ reply_text asked reply → outgoing ≡ outgoing_by asked reply
    → Takes (session password pending finished s (Await asked)) reply
    (session password pending finished (record {
      link = s.link;
      incoming = s.incoming;
      outgoing = outgoing;
    }) (Send framed))
unfolding still_asks still_sends still_ends is_asking is_finished load_of
takes_reply password pending finished s asked reply framed outgoing t o = record {
  asks = λ more. refl;
  sends = λ more replies. (let a = t in let b = o in cc);
  ends = λ more. refl;
  silent = refl;
  finished = refl;
  less = omega arith;
}

-- ---- values in answers

-- the bytes of a long answer that are sent in blocks
pub value_cut : (id : InvokeId) (value : Data)
    → answer_with_header id (response.Get id (result.Value value)) 4 ≡ value_answer id value
unfolding response_text
value_cut id value = refl

pub values_cut : (id : InvokeId) (results : List GetResult)
    → answer_with_header id (response.GetList id results) 3 ≡ values_answer id results
unfolding response_text
values_cut id results = refl

-- ---- the tasks of any session

-- what holds for a session made of its parts holds for the session
by_parts : (P : Session → Type 0) (s : Session) (finished : Bool) (task : SessionTask)
    → s.is_finished ≡ finished → s.task ≡ task
    → P (session s.password s.deframer finished s.state task) → P s
by_parts P s finished task f t p =
    subst (λ (b : Bool). P (session s.password s.deframer b s.state s.task)) (sym f)
    (subst (λ (u : SessionTask). P (session s.password s.deframer finished s.state u)) (sym t)
    p)

-- the frame at the front, by the fields that were read
front_frame : (bytes payload : List ℕ) (src dst n : ℕ) → src ≡ src_of bytes → dst ≡ dst_of bytes
    → payload ≡ take n (drop header_size bytes) → dst ≡ management_device
    → first_frame n bytes ≡ heard_frame src payload
front_frame bytes payload src dst n a b c d =
    let e : dst_of bytes ≡ management_device = sym b ∙ d in
    cc

pub hears_any : (E : Type 0) (s t : Session) (pending payload : List ℕ) (kept : State)
    (src dst n : ℕ) (st : TurnStep) (r : Option Next) → s.task ≡ Listen
    → head_of s.deframer ≡ head.Whole n → src ≡ src_of s.deframer → dst ≡ dst_of s.deframer → dst
    ≡ management_device → payload ≡ take n (drop header_size s.deframer)
    → pending ≡ after_first n s.deframer → KeepsFrames s.deframer
    (Some (first_frame n s.deframer)) pending
    → step_outcome st ≡ outcome_at s.password s.state (heard_frame src payload) → kept
    ≡ state_after s.password s.state (heard_frame src payload) None
    → r ≡ next_by st → t ≡ session s.password pending s.is_finished kept (task_by st)
    → WorksBy {E = E} s (Ok r) t
hears_any E s t pending payload kept src dst n st r listening whole src_is dst_is here payload_is
    left goes_on outcome state given after =
    subst (λ (u : Session). WorksBy {E = E} s (Ok r) u) (sym after)
    (subst (λ (q : Option Next). WorksBy {E = E} s (Ok q)
    (session s.password pending s.is_finished kept (task_by st))) (sym given)
    (by_parts (λ (u : Session). WorksBy {E = E} u (Ok (next_by st))
    (session s.password pending s.is_finished kept (task_by st))) s s.is_finished Listen
    refl listening
    (hears E s.password s.deframer pending s.is_finished s.state kept (heard_frame src payload) n st
    whole left
    (subst (λ (f : Frame). KeepsFrames s.deframer (Some f) pending)
    (front_frame s.deframer payload src dst n src_is dst_is payload_is here) goes_on)
    refl outcome state)))

pub passes_any : (E : Type 0) (s : Session) (pending : List ℕ) (dst n : ℕ) → s.task ≡ Listen
    → head_of s.deframer ≡ head.Whole n
    → dst ≡ dst_of s.deframer → (dst == management_device) ≡ false → pending
    ≡ after_first n s.deframer → KeepsFrames s.deframer (Some (first_frame n s.deframer)) pending
    → WorksBy {E = E} s (Ok None) (session s.password pending s.is_finished s.state s.task)
passes_any E s pending dst n listening whole dst_is elsewhere left goes_on =
    subst (λ (u : SessionTask). WorksBy {E = E}
    (session s.password s.deframer s.is_finished s.state u) (Ok None)
    (session s.password pending s.is_finished s.state u)) (sym listening)
    (passes_frame E s.password s.deframer pending s.is_finished s.state (first_frame n s.deframer) n
    whole left goes_on (ap (λ (d : ℕ). d == management_device) (sym dst_is) ∙ elsewhere))

pub listens_on : (E : Type 0) (s : Session) (h : Head) → s.task ≡ Listen → s.is_finished ≡ false → h
    ≡ head.Part → Fronts s.deframer h → WorksBy {E = E} s (Ok (Some next.Wait)) s
listens_on E s h listens goes_on is means =
    by_parts (λ (u : Session). WorksBy {E = E} u (Ok (Some next.Wait)) u) s false Listen
    goes_on listens
    (wants_more E s.password s.deframer s.state (subst (Fronts s.deframer) is means))

listens_to_end : (E : Type 0) (s t : Session) (end : SessionEnd) (r : Option Next) → s.task ≡ Listen
    → NoFrame s.is_finished s.deframer end
    → r ≡ Some (next.End end) → t ≡ session s.password s.deframer s.is_finished s.state (Over end)
    → WorksBy {E = E} s (Ok r) t
listens_to_end E s t end r listens none given after =
    subst (λ (u : Session). WorksBy {E = E} s (Ok r) u) (sym after)
    (subst (λ (q : Option Next). WorksBy {E = E} s (Ok q)
    (session s.password s.deframer s.is_finished s.state (Over end))) (sym given)
    (by_parts (λ (u : Session). WorksBy {E = E} u (Ok (Some (next.End end)))
    (session s.password s.deframer s.is_finished s.state (Over end))) s s.is_finished Listen
    refl listens
    (comes_to_end E s.password s.deframer s.is_finished s.state end none)))

pub listens_to_close : (E : Type 0) (s t : Session) (h : Head) (r : Option Next) → s.task ≡ Listen
    → s.is_finished ≡ true → h ≡ head.Part → Fronts s.deframer h → s.deframer ≡ []
    → r ≡ Some (next.End ending.Closed) → t ≡ session s.password s.deframer s.is_finished s.state
    (Over ending.Closed) → WorksBy {E = E} s (Ok r) t
listens_to_close E s t h r listens finished is means empty given after =
    listens_to_end E s t ending.Closed r listens
    (subst (λ (b : Bool). NoFrame b s.deframer ending.Closed) (sym finished)
    (is_closed s.deframer (subst (Fronts s.deframer) is means) empty)) given after

pub listens_to_cut : (E : Type 0) (s t : Session) (h : Head) (r : Option Next) → s.task ≡ Listen
    → s.is_finished ≡ true → h ≡ head.Part → Fronts s.deframer h → s.deframer ≢ []
    → r ≡ Some (next.End ending.Cut) → t ≡ session s.password s.deframer s.is_finished s.state
    (Over ending.Cut) → WorksBy {E = E} s (Ok r) t
listens_to_cut E s t h r listens finished is means some given after =
    listens_to_end E s t ending.Cut r listens
    (subst (λ (b : Bool). NoFrame b s.deframer ending.Cut) (sym finished)
    (is_cut s.deframer (subst (Fronts s.deframer) is means) some)) given after

pub listens_to_bad_version : (E : Type 0) (s t : Session) (h : Head) (r : Option Next) → s.task
    ≡ Listen → h ≡ head.BadVersion → Fronts s.deframer h
    → r ≡ Some (next.End ending.BadVersion) → t
    ≡ session s.password s.deframer s.is_finished s.state (Over ending.BadVersion)
    → WorksBy {E = E} s (Ok r) t
listens_to_bad_version E s t h r listens is means given after =
    listens_to_end E s t ending.BadVersion r listens
    (is_bad_version s.is_finished s.deframer (subst (Fronts s.deframer) is means)) given after

pub listens_to_too_long : (E : Type 0) (s t : Session) (h : Head) (r : Option Next) → s.task
    ≡ Listen → h ≡ head.TooLong → Fronts s.deframer h
    → r ≡ Some (next.End ending.TooLong) → t ≡ session s.password s.deframer s.is_finished s.state
    (Over ending.TooLong) → WorksBy {E = E} s (Ok r) t
listens_to_too_long E s t h r listens is means given after =
    listens_to_end E s t ending.TooLong r listens
    (is_too_long s.is_finished s.deframer (subst (Fronts s.deframer) is means)) given after

-- the header that a fault of `feed` means
pub bad_version : (bytes : List ℕ) (f : WrapperFault) → f ≡ fault.Version → StopsBy f bytes
    → Stops head.BadVersion bytes
bad_version bytes f is stops = subst (λ (g : WrapperFault). StopsBy g bytes) is stops

pub too_long : (bytes : List ℕ) (f : WrapperFault) → f ≡ fault.TooLong → StopsBy f bytes
    → Stops head.TooLong bytes
too_long bytes f is stops = subst (λ (g : WrapperFault). StopsBy g bytes) is stops

-- a session that has reported its end is over
pub ends_again : (s : Session) (end : SessionEnd) → reported_end s ≡ Some end → s.task ≡ Over end
unfolding reported_end
ends_again s end = over_by s.task end
  where
    over_by : (task : SessionTask) (end : SessionEnd) → end_in task ≡ Some end → task ≡ Over end
    over_by Listen end e = absurd cc
    over_by (Read joined) end e = absurd cc
    over_by (Await asked) end e = absurd cc
    over_by (Say due) end e = absurd cc
    over_by (Send framed) end e = absurd cc
    over_by (Over other) end e = cc

-- a session that has reported no end
pub not_over : (s : Session) (P : SessionEnd → Type 0)
    → ((end : SessionEnd) → s.task ≡ Over end → ⊥) → IfSome (reported_end s) P
unfolding reported_end
not_over s P not = by_task s.task P not
  where
    by_task : (task : SessionTask) (P : SessionEnd → Type 0)
        → ((end : SessionEnd) → task ≡ Over end → ⊥) → IfSome (end_in task) P
    by_task Listen P not = tt
    by_task (Read joined) P not = tt
    by_task (Await asked) P not = tt
    by_task (Say due) P not = tt
    by_task (Send framed) P not = tt
    by_task (Over end) P not = absurd (not end refl)

-- ---- bytes fed to any session

pub feeds_after_end : (s : Session) (bytes : List ℕ) → s.is_finished ≡ true → Feeds s bytes s
feeds_after_end s bytes finished =
    by_parts (λ (u : Session). Feeds u bytes u) s true s.task finished refl
    (feeds_finished s.password s.deframer s.state s.task bytes)

pub feeds_after_over : (s : Session) (bytes : List ℕ) (end : SessionEnd) → s.task ≡ Over end
    → Feeds s bytes s
feeds_after_over s bytes end over =
    by_parts (λ (u : Session). Feeds u bytes u) s s.is_finished (Over end) refl over
    (feeds_over s.password s.deframer s.is_finished s.state end bytes)

pub feeds_any : (s : Session) (bytes pending : List ℕ) → s.is_finished ≡ false → pending
    ≡ s.deframer ++ bytes → Feeds s bytes (session s.password pending s.is_finished s.state s.task)
feeds_any s bytes pending goes_on longer =
    subst (λ (p : List ℕ). Feeds s bytes (session s.password p s.is_finished s.state s.task))
    (sym longer)
    (subst (λ (b : Bool). Feeds (session s.password s.deframer b s.state s.task) bytes
    (session s.password (s.deframer ++ bytes) b s.state s.task)) (sym goes_on)
    (feeds s.password s.deframer s.state s.task bytes))

feeds_behind : (s : Session) (bytes pending : List ℕ) (end : SessionEnd) → s.is_finished ≡ false
    → pending ≡ s.deframer → NoFrame false s.deframer end
    → Feeds s bytes (session s.password pending s.is_finished s.state s.task)
feeds_behind s bytes pending end goes_on same none =
    subst (λ (p : List ℕ). Feeds s bytes (session s.password p s.is_finished s.state s.task)) (sym
    same)
    (subst (λ (b : Bool). Feeds (session s.password s.deframer b s.state s.task) bytes
    (session s.password s.deframer b s.state s.task)) (sym goes_on)
    (feeds_none s.password s.deframer s.state s.task bytes end none))

pub feeds_behind_version : (s : Session) (bytes pending : List ℕ) → s.is_finished ≡ false → pending
    ≡ s.deframer → Stops head.BadVersion s.deframer
    → Feeds s bytes (session s.password pending s.is_finished s.state s.task)
feeds_behind_version s bytes pending goes_on same stops = feeds_behind s bytes pending
    ending.BadVersion goes_on same (is_bad_version false s.deframer stops)

pub feeds_behind_length : (s : Session) (bytes pending : List ℕ) → s.is_finished ≡ false → pending
    ≡ s.deframer → Stops head.TooLong s.deframer
    → Feeds s bytes (session s.password pending s.is_finished s.state s.task)
feeds_behind_length s bytes pending goes_on same stops =
    feeds_behind s bytes pending ending.TooLong goes_on same (is_too_long false s.deframer stops)

-- ---- the other tasks of any session

pub reads_any : (E : Type 0) (s t : Session) (joined : Joined) (st : TurnStep) (r : Option Next)
    → s.task ≡ Read joined → step_outcome st ≡ whole_outcome joined → IsTrue (is_settled st)
    → r ≡ next_by st → t ≡ session s.password s.deframer s.is_finished s.state (task_by st)
    → WorksBy {E = E} s (Ok r) t
reads_any E s t joined st r reading outcome done given after =
    subst (λ (u : Session). WorksBy {E = E} s (Ok r) u) (sym after)
    (subst (λ (q : Option Next). WorksBy {E = E} s (Ok q)
    (session s.password s.deframer s.is_finished s.state (task_by st))) (sym given)
    (by_parts (λ (u : Session). WorksBy {E = E} u (Ok (next_by st))
    (session s.password s.deframer s.is_finished s.state (task_by st))) s s.is_finished
    (Read joined) refl reading
    (reads E s.password s.deframer s.is_finished s.state joined st outcome done)))

pub awaits_any : (E : Type 0) (s : Session) (asked : Asked) → s.task ≡ Await asked
    → WorksBy {E = E} s (Ok (Some next.Wait)) s
awaits_any E s asked awaiting =
    by_parts (λ (u : Session). WorksBy {E = E} u (Ok (Some next.Wait)) u) s s.is_finished
    (Await asked) refl awaiting (awaits_reply E s.password s.deframer s.is_finished
    s.state asked)

pub says_any : (E : Type 0) (s t : Session) (due : Due) (text : List ℕ) → s.task ≡ Say due → text
    ≡ due_text due.to (answer_text due.answer)
    → t ≡ session s.password s.deframer s.is_finished s.state Listen
    → WorksBy {E = E} s (Ok (Some (next.Send text))) t
says_any E s t due text saying e after =
    subst (λ (u : Session). WorksBy {E = E} s (Ok (Some (next.Send text))) u) (sym after)
    (by_parts (λ (u : Session). WorksBy {E = E} u (Ok (Some (next.Send text)))
    (session s.password s.deframer s.is_finished s.state Listen)) s s.is_finished
    (Say due) refl saying
    (says_text E s.password s.deframer s.is_finished s.state due text e))

pub gives_any : (E : Type 0) (s : Session) (framed : FramedAnswer) (task : SessionTask)
    → s.task ≡ Send framed → task ≡ Listen
    → WorksBy {E = E} s (Ok (Some (next.Send framed.text)))
    (session s.password s.deframer s.is_finished s.state task)
gives_any E s framed task sending after =
    subst (λ (u : SessionTask). WorksBy {E = E} s (Ok (Some (next.Send framed.text)))
    (session s.password s.deframer s.is_finished s.state u)) (sym after)
    (by_parts (λ (u : Session). WorksBy {E = E} u (Ok (Some (next.Send framed.text)))
    (session s.password s.deframer s.is_finished s.state Listen)) s s.is_finished
    (Send framed) refl sending
    (gives_text E s.password s.deframer s.is_finished s.state framed))

pub over_any : (E : Type 0) (s : Session) (end : SessionEnd) → s.task ≡ Over end
    → WorksBy {E = E} s (Ok (Some (next.End end))) s
over_any E s end over =
    by_parts (λ (u : Session). WorksBy {E = E} u (Ok (Some (next.End end))) u) s s.is_finished
    (Over end) refl over (is_over E s.password s.deframer s.is_finished s.state end)

-- a session that waits for more input
pub idles : (s : Session) (h : Head) → s.task ≡ Listen → s.is_finished ≡ false → h ≡ head.Part
    → Fronts s.deframer h → IsQuiet s
idles s h listens goes_on is means = by_parts IsQuiet s false Listen goes_on listens
    (is_quiet s.password s.deframer s.state (subst (Fronts s.deframer) is means))

pub takes_any : (s t : Session) (asked : Asked) (reply : Reply) (framed : FramedAnswer)
    (outgoing : Option Sending) → s.task ≡ Await asked
    → framed.text ≡ reply_text asked reply → outgoing ≡ outgoing_by asked reply
    → t ≡ session s.password s.deframer s.is_finished
    (record { link = s.state.link; incoming = s.state.incoming; outgoing = outgoing })
    (Send framed) → Takes s reply t
takes_any s t asked reply framed outgoing awaiting e o after =
    subst (λ (u : Session). Takes s reply u) (sym after)
    (by_parts (λ (u : Session). Takes u reply
    (session s.password s.deframer s.is_finished
    (record { link = s.state.link; incoming = s.state.incoming; outgoing = outgoing })
    (Send framed))) s s.is_finished (Await asked) refl awaiting
    (takes_reply s.password s.deframer s.is_finished s.state asked reply framed outgoing e o))

-- a session that awaits a reply sends no text before it
pub waits_again : (s : Session) → is_asking s ≡ true → IsAwaiting s
unfolding is_asking still_sends
waits_again s = awaiting_by s.password s.deframer s.is_finished s.state s.task
  where
    awaiting_by : (password pending : List ℕ) (finished : Bool) (state : State) (task : SessionTask)
        → is_awaiting task ≡ true → IsAwaiting (session password pending finished state task)
    awaiting_by password pending finished state Listen e = absurd cc
    awaiting_by password pending finished state (Read joined) e = absurd cc
    awaiting_by password pending finished state (Await asked) e =
        record { asking = refl; sends = λ more. refl }
    awaiting_by password pending finished state (Say due) e = absurd cc
    awaiting_by password pending finished state (Send framed) e = absurd cc
    awaiting_by password pending finished state (Over end) e = absurd cc

pub over_again : (s : Session) (end : SessionEnd) → reported_end s ≡ Some end → IsOver end s
over_again s end e = by_parts (λ (u : Session). IsOver end u) s s.is_finished (Over end) refl
    (ends_again s end e) (is_over_now s.password s.deframer s.is_finished s.state end)

-- a session that awaits a reply is not over
pub asks_or_ends : (s : Session) (end : SessionEnd) → is_asking s ≡ true → reported_end s ≡ Some end
    → ⊥
unfolding is_asking
asks_or_ends s end asking e =
    let over : is_awaiting (Over end) ≡ true = subst (λ (t : SessionTask). is_awaiting t ≡ true)
    (ends_again s end e) asking in
    absurd cc
