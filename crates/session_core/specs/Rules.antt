-- The effect of one frame, given the association and the transfers before it (IEC 62056-5-3,
-- association, GET, SET and ACTION, block transfer). A frame is judged in this order, which is this
-- meter's own: an AARQ opens an association anew; a payload that is neither a release nor a service
-- is unknown; a request from a port without an association is not allowed; then the request
-- decides.
--     turn_of                                      the outcome of the frame
--     link_after, incoming_after, outgoing_after   the association, the long SET or ACTION and the
--                                                  long GET after it
--     outcome_at, state_after                      the outcome, and all that a session keeps after
--                                                  it
use Rattle.std.specs.Prelude.{◌≡◌, ℕ, Bool, false, true, ◌&&◌, ◌||◌, ◌==◌, if◌then◌else◌, Option, Some, None, List, Result, Ok, Err}
use Rattle.acse_ber.specs.Reading.{aarq_of}
use Rattle.acse_ber.specs.Verdict.{verdict_of}
use Rattle.acse_ber.specs.declared.fault.AcseFault.{AcseFault}
use Rattle.acse_ber.specs.declared.aarq.Aarq.{Aarq}
use Rattle.relay_events.specs.declared.event.Event.TheVariants as event
use Rattle.relay_events.specs.declared.reply.Reply.{Reply}
use Rattle.session_core.specs.Answers.{answer_text, due_text}
use Rattle.session_core.specs.Association.{aare_by, link_by_opening}
use Rattle.session_core.specs.Calls.{is_opening, is_call, call_of, short_event}
use Rattle.session_core.specs.Incoming.{no_blocks, block_outcome_of, block_after, transfer_of, later_outcome, later_after, whole_outcome}
use Rattle.session_core.specs.Outcome.{Outcome, Turn, asks, says, settled, continues}
use Rattle.session_core.specs.Outgoing.{transfer_after_next, continued_response, outgoing_by, reply_response}
use Rattle.session_core.specs.Roles.{Role, starts, follows, gets, gets_next, role_of}
use Rattle.session_core.specs.Standard.{management_device}
use Rattle.session_core.specs.declared.answer.Answer.{Answer}
use Rattle.session_core.specs.declared.answer.Answer.TheVariants.{Association, Release, Service}
use Rattle.session_core.specs.declared.asked.Asked.{Asked}
use Rattle.session_core.specs.declared.asked.ReplyForm.{ReplyForm}
use Rattle.session_core.specs.declared.asked.ReplyForm.TheVariants as form
use Rattle.session_core.specs.declared.call.Call.{Call}
use Rattle.session_core.specs.declared.call.Call.TheVariants as call
use Rattle.session_core.specs.declared.incoming.Incoming.{Incoming}
use Rattle.session_core.specs.declared.incoming.LongService.TheVariants as service
use Rattle.session_core.specs.declared.incoming.Purpose.TheVariants as purpose
use Rattle.session_core.specs.declared.link.Link.{Link}
use Rattle.session_core.specs.declared.short_request.ShortRequest.{ShortRequest}
use Rattle.session_core.specs.declared.state.State.{State}
use Rattle.session_core.specs.declared.step.TurnStep.{TurnStep}
use Rattle.session_core.specs.declared.step.TurnStep.TheVariants.{Ask, Say, Join}
use Rattle.wrapper_frame.specs.declared.parts.Frame.{Frame}
use Rattle.xdlms_apdu.specs.declared.request.Request.{Request}
use Rattle.xdlms_apdu.specs.declared.request.Request.TheVariants as request
use Rattle.xdlms_apdu.specs.declared.response.Exception.{Exception}
use Rattle.xdlms_apdu.specs.declared.response.Exception.TheVariants.{NotAllowed, Unknown, Unreadable}
use Rattle.xdlms_apdu.specs.declared.response.Response.TheVariants as response
use Rattle.xdlms_blocks.specs.Transfer.{Sending}

-- ---- which frames count

-- a frame for the server: the port that it comes from, and its payload
abbrev pub heard_frame : ℕ → List ℕ → Frame
heard_frame src payload = record { src = src; dst = management_device; payload = payload }

-- whether a frame opens an association, or tries to
abbrev pub is_aarq : Frame → Bool
is_aarq f = is_opening f.payload

-- whether a frame is a request from the client of this association
abbrev pub is_heard : Link → Frame → Bool
is_heard link f = is_call f.payload && link.source == f.src

-- the request in a frame of the client
abbrev pub call_in : Link → Frame → Call
call_in link f = call_of link.conformance.0 f.payload

-- the role of that request in the transfers
abbrev pub role_in : Link → Frame → Role
role_in link f = role_of (call_in link f)

-- whether a request is a release
abbrev pub is_release : Call → Bool
is_release call.Release = true
is_release _ = false

-- whether a frame releases this association
abbrev pub is_closing : Link → Frame → Bool
is_closing link f = is_heard link f && is_release (call_in link f)

-- whether an answer is to a GET of one attribute
abbrev pub asks_value : ReplyForm → Bool
asks_value (form.Get id) = true
asks_value _ = false

-- whether an answer is to a SET that arrived whole, or to an ACTION
abbrev pub asks_code : ReplyForm → Bool
asks_code (form.Set id) = true
asks_code (form.Action id) = true
asks_code _ = false

-- whether an answer is to a GET of one attribute, a SET that arrived whole, or an ACTION
abbrev pub asks_short : ReplyForm → Bool
asks_short form = asks_value form || asks_code form

-- ---- the outcome of a frame

-- the answer with an exception
abbrev pub exception_answer : Exception → Answer
exception_answer exception = Service (response.Exception exception)

-- the answer to an AARQ from a port
abbrev pub opening_answer : List ℕ → ℕ → Result Aarq AcseFault → Answer
opening_answer password source (Ok aarq) = Association (aare_by (verdict_of aarq source password))
opening_answer password source (Err fault) = exception_answer Unreadable

-- the outcome of a request that was read
abbrev pub request_turn : Link → Option Incoming → Request → Turn
request_turn link incoming (request.Get id target) =
    settled (asks (event.Get link.level target.attr target.selected)
    (record { link = link; form = form.Get id }))
request_turn link incoming (request.GetNext id number) = continues link.source id number
request_turn link incoming (request.GetList id targets) =
    settled (asks (event.GetList link.level targets)
    (record { link = link; form = form.GetList id }))
request_turn link incoming (request.Set id target value) =
    settled (asks (event.Set link.level target.attr target.selected value)
    (record { link = link; form = form.Set id }))
request_turn link incoming (request.SetFirst id target block) =
    settled (block_outcome_of link id (purpose.Set target) block no_blocks)
request_turn link incoming (request.SetNext id block) =
    settled (later_outcome link service.Set id block (transfer_of service.Set incoming))
request_turn link incoming (request.Action id method parameter) =
    settled (asks (event.Execute link.level method parameter)
    (record { link = link; form = form.Action id }))
request_turn link incoming (request.ActionFirst id method block) =
    settled (block_outcome_of link id (purpose.Action method) block no_blocks)
request_turn link incoming (request.ActionNext id block) =
    settled (later_outcome link service.Action id block (transfer_of service.Action incoming))

-- the outcome of the client's request
abbrev pub call_turn : Link → Option Incoming → Call → Turn
call_turn link incoming call.Release = settled (says link.source Release)
call_turn link incoming (call.Service request) = request_turn link incoming request
call_turn link incoming (call.Refused exception) =
    settled (says link.source (exception_answer exception))

-- the outcome of a frame that is a release or a service
abbrev pub turn_in : Option Link → Option Incoming → Frame → Turn
turn_in None incoming f = settled (says f.src (exception_answer NotAllowed))
turn_in (Some link) incoming f =
    if link.source == f.src then call_turn link incoming (call_in link f)
    else settled (says f.src (exception_answer NotAllowed))

-- the outcome of a frame
unfoldable pub turn_of : List ℕ → Option Link → Option Incoming → Frame → Turn
turn_of password link incoming f =
    if is_aarq f then settled (says f.src (opening_answer password f.src (aarq_of f.payload)))
    else if is_call f.payload then turn_in link incoming f
    else settled (says f.src (exception_answer Unknown))

-- ---- the association after a frame

-- the association after a frame that does not open one: a release by its client ends it
abbrev pub link_in : Frame → Option Link → Option Link
link_in f None = None
link_in f (Some link) = if is_closing link f then None else Some link

-- the association after a frame: an AARQ ends the one before and opens another if it is accepted; a
-- release by its client ends it, and any other frame leaves it
unfoldable pub link_after : List ℕ → Frame → Option Link → Option Link
link_after password f link = if is_aarq f then link_by_opening password f else link_in f link

-- ---- the long SET or ACTION after a frame: any request except its next block ends it

-- the long SET or ACTION after a request with this role: only its next block continues it
abbrev pub incoming_by_role : Role → Option Incoming → Option Incoming
incoming_by_role (starts purpose block) incoming = block_after purpose block no_blocks
incoming_by_role (follows service block) incoming = later_after block (transfer_of service incoming)
incoming_by_role _ incoming = None

-- the long SET or ACTION after a frame that is not an AARQ: only a request of the association's
-- client changes it
abbrev pub incoming_in : Option Link → Frame → Option Incoming → Option Incoming
incoming_in None f incoming = incoming
incoming_in (Some link) f incoming = if is_heard link f
    then incoming_by_role (role_in link f) incoming else incoming

-- the long SET or ACTION after a frame: an AARQ ends it, and so does any request except its next
-- block
unfoldable pub incoming_after : Option Link → Frame → Option Incoming → Option Incoming
incoming_after link f incoming = if is_aarq f then None else incoming_in link f incoming

-- ---- the long GET after a frame and the reply to its event: any request except a GET-next ends it

-- the transfer that a reply begins, if there was a reply
abbrev pub transfer_of_reply : Link → ReplyForm → Option Reply → Option Sending
transfer_of_reply link form None = None
transfer_of_reply link form (Some reply) = outgoing_by (record { link = link; form = form }) reply

-- the long GET after a request with this role and the reply to its event: a GET may begin one, a
-- GET-next continues it, and any other request ends it
abbrev pub outgoing_by_role : Link → Role → Option Reply → Option Sending → Option Sending
outgoing_by_role link (gets form) reply outgoing = transfer_of_reply link form reply
outgoing_by_role link (gets_next number) reply outgoing = transfer_after_next number outgoing
outgoing_by_role link _ reply outgoing = None

-- the long GET after a frame that is not an AARQ and the reply to its event: only a request of the
-- association's client changes it
abbrev pub outgoing_in : Option Link → Frame → Option Reply → Option Sending → Option Sending
outgoing_in None f reply outgoing = outgoing
outgoing_in (Some link) f reply outgoing = if is_heard link f
    then outgoing_by_role link (role_in link f) reply outgoing else outgoing

-- the long GET after a frame and the reply to its event: an AARQ ends it, and so does any request
-- except a GET-next
unfoldable pub outgoing_after : Option Link → Frame → Option Reply → Option Sending → Option Sending
outgoing_after link f reply outgoing = if is_aarq f then None else outgoing_in link f reply outgoing

-- ---- all that a session keeps

-- the outcome of a turn, once the long GET is known
abbrev pub outcome_of_turn : Option Sending → Turn → Outcome
outcome_of_turn outgoing (settled outcome) = outcome
outcome_of_turn outgoing (continues to id number) =
    says to (Service (continued_response id number outgoing))

-- the outcome of a frame
abbrev pub outcome_at : List ℕ → State → Frame → Outcome
outcome_at password s f = outcome_of_turn s.outgoing (turn_of password s.link s.incoming f)

-- the state after a frame, and after the reply to its event
abbrev pub state_after : List ℕ → State → Frame → Option Reply → State
state_after password s f reply =
    record {
      link = link_after password f s.link;
      incoming = incoming_after s.link f s.incoming;
      outgoing = outgoing_after s.link f reply s.outgoing;
    }

-- the state after a request
abbrev pub state_by_call : Link → Call → State → State
state_by_call link call s = record {
  link = (if is_release call then None else s.link);
  incoming = incoming_by_role (role_of call) s.incoming;
  outgoing = outgoing_by_role link (role_of call) None s.outgoing;
}

-- the frame with the answer to a reply
abbrev pub reply_text : Asked → Reply → List ℕ
reply_text asked reply =
    due_text asked.link.source (answer_text (Service (reply_response asked reply)))

-- the outcome of a step of the code, which may still have to decode the joined bytes
abbrev pub step_outcome : TurnStep → Outcome
step_outcome (Ask event asked) = asks event asked
step_outcome (Say due) = says due.to due.answer
step_outcome (Join joined) = whole_outcome joined

-- whether a step has no bytes left to decode
abbrev pub is_settled : TurnStep → Bool
is_settled (Ask event asked) = true
is_settled (Say due) = true
is_settled (Join joined) = false

-- whether a frame is this short request and ends the transfers, whatever the password is
pub record HearsShort (old : State) (f : Frame) (asked : Asked) (heard : ShortRequest)
    (new : State) : Type 0 where
  pub outcome : (password : List ℕ)
      → outcome_at password old f ≡ asks (short_event asked.link.level heard) asked
  pub after : (password : List ℕ) → new ≡ state_after password old f None
  pub is_short : asks_short asked.form ≡ true
