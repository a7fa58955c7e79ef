-- A short request, from its frame to the frame of its answer.
use Rattle.std.proofs.Common.{◌≡◌, ◌<◌, ◌==◌, ℕ, Bool, true, if◌then◌else◌, Option, Some, None, Ok, List, [], ◌∷◌, get_or, ◌≤◌, length, take, drop, bit_and, refl, sym, ap, subst, ◌∙◌, arith}
use Rattle.std.specs.Int.{w16, from_be_bytes}
use Rattle.byteorder.specs.Endian.{big_number}
use Rattle.cosem_axdr.specs.Reading.{first_data, value_at, leaf_at, fixed_at}
use Rattle.std.proofs.lemmas.Bool.{eq-eqb, le-leb}
use Rattle.std.proofs.lemmas.Slice.Eq.{text_from_reads}
use Rattle.relay_events.specs.declared.event.Event.{Event}
use Rattle.relay_events.specs.declared.reply.Reply.{Reply}
use Rattle.relay_events.specs.declared.reply.Reply.TheVariants.{Value}
use Rattle.session_core.proofs.Short.{framed_length}
use Rattle.session_core.proofs.Tasks.{hears_any, takes_any, gives_any}
use Rattle.session_core.specs.Calls.{IsShortRequest, call_by, call_of, is_negotiated, request_form, short_event, short_form}
use Rattle.session_core.specs.Answers.{answer_text, due_text}
use Rattle.session_core.specs.Outgoing.{has_room, outgoing_by, reply_code, reply_response, reply_transfer}
use Rattle.session_core.specs.declared.answer.Answer.TheVariants.{Service}
use Rattle.cosem_axdr.specs.declared.value.Data.{Data}
use Rattle.cosem_axdr.specs.declared.value.Data.TheVariants.{Boolean, Enum}
use Rattle.cosem_names.specs.declared.level.Level.{Level}
use Rattle.cosem_names.specs.declared.service.GetResult.TheVariants as result
use Rattle.std.specs.Prelude.{Result, IfOk, IfSome, ◌≢◌, ◌↔◌, ◌+◌}
use Rattle.wrapper_frame.specs.declared.fault.WrapperFault.{WrapperFault}
use Rattle.xdlms_apdu.specs.Responses.{response_text}
use Rattle.xdlms_apdu.specs.declared.invoke_id.InvokeId.{InvokeId}
use Rattle.session_core.specs.Progress.{AnswersBy, AsksShort, WorksBy}
use Rattle.session_core.specs.Remaining.{is_asking, is_asking_short, load_of, task_load}
use Rattle.session_core.specs.Rules.{HearsShort, heard_frame, incoming_after, link_after, outgoing_after, reply_text, turn_of}
use Rattle.session_core.specs.ShortAnswers.{is_short_answer, is_short_reply, is_two_bytes, short_frame, IsShortIn}
use Rattle.session_core.specs.Standard.{management_device, least_pdu, greatest_frame, get_tag, set_tag, action_tag}
use Rattle.session_core.specs.declared.asked.Asked.{Asked}
use Rattle.session_core.specs.declared.asked.ReplyForm.{ReplyForm}
use Rattle.session_core.specs.declared.asked.ReplyForm.TheVariants as asked_form
use Rattle.session_core.specs.declared.call.Call.TheVariants.{Refused}
use Rattle.session_core.specs.declared.framed_answer.FramedAnswer.{FramedAnswer}
use Rattle.session_core.specs.declared.link.Link.{Link}
use Rattle.session_core.specs.declared.next.Next.TheVariants as next
use Rattle.session_core.specs.declared.session.Session.{Session}
use Rattle.session_core.specs.declared.short_request.ShortRequest.{ShortRequest}
use Rattle.session_core.specs.declared.short_request.ShortRequest.TheVariants as short
use Rattle.session_core.specs.declared.state.State.{State}
use Rattle.session_core.specs.declared.step.TurnStep.TheVariants as step
use Rattle.session_core.specs.declared.task.SessionTask.TheVariants.{Listen, Await, Send}
use Rattle.wrapper_frame.specs.Header.{head_of, header_size, max_payload, src_of, dst_of}
use Rattle.wrapper_frame.specs.Messages.{first_frame, after_first}
use Rattle.wrapper_frame.specs.Stream.{KeepsFrames}
use Rattle.wrapper_frame.specs.Text.{frame_text, IsPlaced}
use Rattle.wrapper_frame.specs.declared.header.Head.TheVariants as head
use Rattle.xdlms_apdu.specs.Requests.{request_of}
use Rattle.xdlms_apdu.specs.declared.response.Exception.TheVariants.{Unknown}
use Rattle.xdlms_apdu.specs.declared.response.Response.{Response}
use Rattle.xdlms_apdu.specs.declared.response.Response.TheVariants as response
use Rattle.xdlms_blocks.specs.Transfer.{Sending}

-- ---- its service

-- the conformance bit that each of the three services needs
pub negotiated_get : (conformance : ℕ)
    → is_negotiated conformance get_tag 1 ≡ (bit_and conformance 0x10 == 0x10)
unfolding is_negotiated request_form
negotiated_get conformance = refl

pub negotiated_set : (conformance : ℕ)
    → is_negotiated conformance set_tag 1 ≡ (bit_and conformance 0x08 == 0x08)
unfolding is_negotiated request_form
negotiated_set conformance = refl

pub negotiated_action : (conformance : ℕ)
    → is_negotiated conformance action_tag 1 ≡ (bit_and conformance 0x01 == 0x01)
unfolding is_negotiated request_form
negotiated_action conformance = refl

-- ---- its payload

-- a payload of thirteen bytes that is a GET of one attribute
get_of : (conformance id high low a b c d e f number : ℕ)
    → (bit_and conformance 0x10 == 0x10) ≡ true
    → IsShortRequest conformance (0xC0 ∷ 0x01 ∷ id ∷ high ∷ low ∷ a ∷ b ∷ c ∷ d ∷ e ∷ f ∷ number ∷
    0x00
    ∷ []) (asked_form.Get (record { 0 = id }))
    (short.Get (record {
      class = record { 0 = from_be_bytes w16 (high ∷ low ∷ []) };
      name = record { 0 = a ∷ b ∷ c ∷ d ∷ e ∷ f ∷ [] };
      number = number;
    }))
unfolding call_of is_negotiated request_form request_of
get_of conformance id high low a b c d e f number negotiated =
    let payload : List ℕ = 0xC0 ∷ 0x01 ∷ id ∷ high ∷ low ∷ a ∷ b ∷ c ∷ d ∷ e ∷ f ∷ number
    ∷ 0x00 ∷ [] in
    record {
      id = record { 0 = id };
      answered = refl;
      opens = refl;
      calls = refl;
      call = ap (λ (has_get : Bool). if has_get then call_by (request_of payload) else Refused
          Unknown) negotiated;
    }

pub reads_get : (conformance : ℕ) (s : List ℕ) (class : ℕ) → 13 ≤ length s → length s < 14
    → get_or s 0 0 ≡ 0xC0 → get_or s 1 0 ≡ 0x01 → get_or s 12 0 ≡ 0x00
    → (bit_and conformance 0x10 == 0x10) ≡ true → class
    ≡ big_number 2 (get_or s 3 0 ∷ get_or s 4 0 ∷ [])
    → IsShortRequest conformance s (asked_form.Get (record { 0 = get_or s 2 0 }))
    (short.Get (record {
      class = record { 0 = class };
      name = record {
        0 = get_or s 5 0 ∷ get_or s 6 0
            ∷ get_or s 7 0 ∷ get_or s 8 0 ∷ get_or s 9 0 ∷ get_or s 10 0 ∷ [];
      };
      number = get_or s 11 0;
    }))
reads_get conformance s class least most tag form selection negotiated is_class =
    let read : List ℕ =
    0xC0 ∷ 0x01 ∷ get_or s 2 0 ∷ get_or s 3 0 ∷ get_or s 4 0 ∷ get_or s 5 0 ∷ get_or s 6 0
    ∷ get_or s 7 0 ∷ get_or s 8 0 ∷ get_or s 9 0 ∷ get_or s 10 0 ∷ get_or s 11 0 ∷ 0x00 ∷ [] in
    let spelled : s ≡ read =
    text_from_reads s read (omega (arith, least, most)) (
      tag,
      (
        form,
        (
          refl,
          (
            refl,
            (refl, (refl, (refl, (refl, (refl, (refl, (refl, (refl, (selection, tt))))))))),
          ),
        ),
      ),
    ) in
    let class_is : class ≡ from_be_bytes w16 (get_or s 3 0 ∷ get_or s 4 0 ∷ []) =
    omega (arith, is_class) in
    rw (spelled, class_is) (get_of conformance _ _ _ _ _ _ _ _ _ _ negotiated)

-- a payload of fifteen bytes that is a SET of one attribute to an enum
set_of : (conformance id high low a b c d e f number value : ℕ)
    → (bit_and conformance 0x08 == 0x08) ≡ true
    → IsShortRequest conformance (0xC1 ∷ 0x01 ∷ id ∷ high ∷ low ∷ a ∷ b ∷ c ∷ d ∷ e ∷ f ∷ number
    ∷ 0x00 ∷ 0x16 ∷ value ∷ []) (asked_form.Set (record { 0 = id }))
    (short.Set (record {
      class = record { 0 = from_be_bytes w16 (high ∷ low ∷ []) };
      name = record { 0 = a ∷ b ∷ c ∷ d ∷ e ∷ f ∷ [] };
      number = number;
    })
    value)
unfolding call_of is_negotiated request_form request_of first_data value_at leaf_at fixed_at
set_of conformance id high low a b c d e f number value negotiated =
    let payload : List ℕ = 0xC1 ∷ 0x01 ∷ id ∷ high ∷ low ∷ a ∷ b ∷ c ∷ d ∷ e ∷ f ∷ number
    ∷ 0x00 ∷ 0x16 ∷ value ∷ [] in
    record {
      id = record { 0 = id };
      answered = refl;
      opens = refl;
      calls = refl;
      call = ap (λ (has_set : Bool). if has_set then call_by (request_of payload) else Refused
          Unknown) negotiated;
    }

-- a payload of fifteen bytes that is an ACTION with an integer
action_of : (conformance id high low a b c d e f number value : ℕ)
    → (bit_and conformance 0x01 == 0x01) ≡ true
    → IsShortRequest conformance (0xC3 ∷ 0x01 ∷ id ∷ high ∷ low ∷ a ∷ b ∷ c ∷ d ∷ e ∷ f ∷ number
    ∷ 0x01 ∷ 0x0F ∷ value ∷ []) (asked_form.Action (record { 0 = id }))
    (short.Action (record {
      class = record { 0 = from_be_bytes w16 (high ∷ low ∷ []) };
      name = record { 0 = a ∷ b ∷ c ∷ d ∷ e ∷ f ∷ [] };
      number = number;
    })
    value)
unfolding call_of is_negotiated request_form request_of first_data value_at leaf_at fixed_at
action_of conformance id high low a b c d e f number value negotiated =
    let payload : List ℕ = 0xC3 ∷ 0x01 ∷ id ∷ high ∷ low ∷ a ∷ b ∷ c ∷ d ∷ e ∷ f ∷ number
    ∷ 0x01 ∷ 0x0F ∷ value ∷ [] in
    record {
      id = record { 0 = id };
      answered = refl;
      opens = refl;
      calls = refl;
      call = ap (λ (has_action : Bool). if has_action then call_by (request_of payload) else Refused
          Unknown) negotiated;
    }

-- the fifteen bytes of a payload, by its tag, its presence byte and the tag of its value
spelled : List ℕ → ℕ → ℕ → ℕ → List ℕ
spelled s tag presence kind =
    tag ∷ 0x01 ∷ get_or s 2 0 ∷ get_or s 3 0 ∷ get_or s 4 0 ∷ get_or s 5 0 ∷ get_or s 6 0
    ∷ get_or s 7 0 ∷ get_or s 8 0 ∷ get_or s 9 0 ∷ get_or s 10 0 ∷ get_or s 11 0 ∷ presence ∷ kind
    ∷ get_or s 14 0 ∷ []

is_spelled : (s : List ℕ) (tag presence kind : ℕ) → 15 ≤ length s → length s < 16
    → get_or s 0 0 ≡ tag → get_or s 1 0 ≡ 0x01 → get_or s 12 0 ≡ presence → get_or s 13 0 ≡ kind
    → s ≡ spelled s tag presence kind
unfolding spelled
is_spelled s tag presence kind least most has_tag form has_presence has_kind =
    text_from_reads s (spelled s tag presence kind) (omega (arith, least, most)) (
      has_tag,
      (
        form,
        (
          refl,
          (
            refl,
            (
              refl,
              (
                refl,
                (
                  refl,
                  (
                    refl,
                    (refl, (refl, (refl, (refl, (has_presence, (has_kind, (refl, tt))))))),
                  ),
                ),
              ),
            ),
          ),
        ),
      ),
    )

pub reads_set : (conformance : ℕ) (s : List ℕ) (class : ℕ) → 15 ≤ length s → length s < 16
    → get_or s 0 0 ≡ 0xC1 → get_or s 1 0 ≡ 0x01 → get_or s 12 0 ≡ 0x00 → get_or s 13 0 ≡ 0x16
    → (bit_and conformance 0x08 == 0x08) ≡ true → class
    ≡ big_number 2 (get_or s 3 0 ∷ get_or s 4 0 ∷ [])
    → IsShortRequest conformance s (asked_form.Set (record { 0 = get_or s 2 0 }))
    (short.Set (record {
      class = record { 0 = class };
      name = record {
        0 = get_or s 5 0 ∷ get_or s 6 0
            ∷ get_or s 7 0 ∷ get_or s 8 0 ∷ get_or s 9 0 ∷ get_or s 10 0 ∷ [];
      };
      number = get_or s 11 0;
    })
    (get_or s 14 0))
unfolding spelled
reads_set conformance s class least most tag form presence kind negotiated is_class =
    let is_text : s ≡ spelled s 0xC1 0x00 0x16 =
    is_spelled s 0xC1 0x00 0x16 least most tag form presence kind in
    let class_is : class ≡ from_be_bytes w16 (get_or s 3 0 ∷ get_or s 4 0 ∷ []) =
    omega (arith, is_class) in
    rw (is_text, class_is) (set_of conformance _ _ _ _ _ _ _ _ _ _ _ negotiated)

pub reads_action : (conformance : ℕ) (s : List ℕ) (class : ℕ) → 15 ≤ length s → length s < 16
    → get_or s 0 0 ≡ 0xC3 → get_or s 1 0 ≡ 0x01 → get_or s 12 0 ≡ 0x01 → get_or s 13 0 ≡ 0x0F
    → (bit_and conformance 0x01 == 0x01) ≡ true → class
    ≡ big_number 2 (get_or s 3 0 ∷ get_or s 4 0 ∷ [])
    → IsShortRequest conformance s (asked_form.Action (record { 0 = get_or s 2 0 }))
    (short.Action (record {
      class = record { 0 = class };
      name = record {
        0 = get_or s 5 0 ∷ get_or s 6 0
            ∷ get_or s 7 0 ∷ get_or s 8 0 ∷ get_or s 9 0 ∷ get_or s 10 0 ∷ [];
      };
      number = get_or s 11 0;
    })
    (get_or s 14 0))
unfolding spelled
reads_action conformance s class least most tag form presence kind negotiated is_class =
    let is_text : s ≡ spelled s 0xC3 0x01 0x0F =
    is_spelled s 0xC3 0x01 0x0F least most tag form presence kind in
    let class_is : class ≡ from_be_bytes w16 (get_or s 3 0 ∷ get_or s 4 0 ∷ []) =
    omega (arith, is_class) in
    rw (is_text, class_is) (action_of conformance _ _ _ _ _ _ _ _ _ _ _ negotiated)

-- ---- its frame

-- the client of the association sends a short request
pub hears_short : (s : State) (src : ℕ) (payload : List ℕ) (link : Link) (form : ReplyForm)
    (request : ShortRequest) → s.link ≡ Some link → link.source ≡ src
    → IsShortRequest link.conformance.0 payload form request
    → HearsShort s (heard_frame src payload)
    (record { link = link; form = form }) request
    (record { link = s.link; incoming = None; outgoing = None })
unfolding turn_of link_after incoming_after outgoing_after
hears_short s src payload link form (short.Get attr) linked same read =
    let here : (link.source == src) ≡ true = eq-eqb link.source src same in
    record {
      outcome = λ password.
          rw (read.answered, read.opens, read.calls, linked, here, read.call) refl;
      after = λ password. rw (read.opens, linked, read.calls, here, read.call) refl;
      is_short = rw read.answered refl;
    }
hears_short s src payload link form (short.Set attr value) linked same read =
    let here : (link.source == src) ≡ true = eq-eqb link.source src same in
    record {
      outcome = λ password.
          rw (read.answered, read.opens, read.calls, linked, here, read.call) refl;
      after = λ password. rw (read.opens, linked, read.calls, here, read.call) refl;
      is_short = rw read.answered refl;
    }
hears_short s src payload link form (short.Action method value) linked same read =
    let here : (link.source == src) ≡ true = eq-eqb link.source src same in
    record {
      outcome = λ password.
          rw (read.answered, read.opens, read.calls, linked, here, read.call) refl;
      after = λ password. rw (read.opens, linked, read.calls, here, read.call) refl;
      is_short = rw read.answered refl;
    }

-- the frame at the front is a short request
pub asks_at_front : (s t : Session) (pending payload : List ℕ) (kept : State) (src dst n : ℕ)
    (asked : Asked) (request : ShortRequest) → s.task ≡ Listen
    → head_of s.deframer ≡ head.Whole n → src ≡ src_of s.deframer → dst ≡ dst_of s.deframer → dst
    ≡ management_device → payload ≡ take n (drop header_size s.deframer)
    → pending ≡ after_first n s.deframer → KeepsFrames s.deframer
    (Some (first_frame n s.deframer)) pending
    → HearsShort s.state (heard_frame src payload) asked request kept
    → t ≡ record {
      password = s.password;
      deframer = pending;
      is_finished = s.is_finished;
      state = kept;
      task = Await asked;
    } → AsksShort s (short_event asked.link.level request) t
unfolding is_asking_short
asks_at_front s t pending payload kept src dst n asked request listening whole src_is dst_is here
    payload_is left goes_on heard after =
    let event : Event = short_event asked.link.level request in
    let works : WorksBy {E = ℕ} s (Ok (Some (next.Ask event))) t =
    hears_any ℕ s t pending payload kept src dst n (step.Ask event asked) (Some (next.Ask event))
    listening whole src_is dst_is here payload_is left goes_on
    (sym (heard.outcome s.password)) (heard.after s.password) refl after in
    record {
      steps = works.0;
      awaits = works.1.0;
      is_short = rw after heard.is_short;
      less =
          works.1.1;
    }

-- ---- its answer

-- the frame that the code writes for an answer
code_frame : (asked : Asked) (reply : Reply) (framed : Result (List ℕ) WrapperFault)
    (text payload : List ℕ) → framed ≡ Ok text
    → IfOk framed (λ frame. frame
    ≡ frame_text (record { src = management_device; dst = asked.link.source; payload = payload }))
    → payload ≡ answer_text (Service (reply_response asked reply)) → text ≡ reply_text asked reply
unfolding due_text
code_frame asked reply framed text payload is written spells =
    let frames : text ≡ due_text asked.link.source payload = rw is at written in
    frames ∙ ap (due_text asked.link.source) spells

pub set_payload : (asked : Asked) (reply : Reply) (id : InvokeId)
    → asked.form ≡ asked_form.Set id
    → answer_text (Service (response.Set id (reply_code reply)))
    ≡ answer_text (Service (reply_response asked reply))
unfolding reply_response
set_payload asked reply id form = rw form refl

pub action_payload : (asked : Asked) (reply : Reply) (id : InvokeId)
    → asked.form ≡ asked_form.Action id
    → answer_text (Service (response.Action id (reply_code reply)))
    ≡ answer_text (Service (reply_response asked reply))
unfolding reply_response
action_payload asked reply id form = rw form refl

-- the frame that the code writes for the answer to a SET, and to an ACTION
pub set_frame : (asked : Asked) (reply : Reply) (id : InvokeId)
    (framed : Result (List ℕ) WrapperFault) (text payload : List ℕ)
    → asked.form ≡ asked_form.Set id → framed ≡ Ok text
    → IfOk framed (λ frame. frame
    ≡ frame_text (record { src = management_device; dst = asked.link.source; payload = payload }))
    → payload ≡ answer_text (Service (response.Set id (reply_code reply)))
    → text ≡ reply_text asked reply
set_frame asked reply id framed text payload form is written spells =
    code_frame asked reply framed text payload is written
    (spells ∙ set_payload asked reply id form)

pub action_frame : (asked : Asked) (reply : Reply) (id : InvokeId)
    (framed : Result (List ℕ) WrapperFault) (text payload : List ℕ)
    → asked.form ≡ asked_form.Action id → framed ≡ Ok text
    → IfOk framed (λ frame. frame
    ≡ frame_text (record { src = management_device; dst = asked.link.source; payload = payload }))
    → payload ≡ answer_text (Service (response.Action id (reply_code reply)))
    → text ≡ reply_text asked reply
action_frame asked reply id framed text payload form is written spells =
    code_frame asked reply framed text payload is written
    (spells ∙ action_payload asked reply id form)

pub set_begins_none : (asked : Asked) (reply : Reply) (id : InvokeId)
    → asked.form ≡ asked_form.Set id → None ≡ outgoing_by asked reply
unfolding reply_transfer
set_begins_none asked reply id form = rw form refl

pub action_begins_none : (asked : Asked) (reply : Reply) (id : InvokeId)
    → asked.form ≡ asked_form.Action id → None ≡ outgoing_by asked reply
unfolding reply_transfer
action_begins_none asked reply id form = rw form refl

-- an answer of at most 64 bytes fits in each client's PDU size
has_room_for : (link : Link) (normal : Response) (text : List ℕ)
    → text ≡ answer_text (Service normal) → length text ≤ least_pdu → least_pdu ≤ link.limit
    → has_room link normal ≡ true
unfolding answer_text
has_room_for link normal text is short enough =
    let long : length text ≡ length (response_text normal) = ap length is in
    le-leb _ _ (omega (arith, long, short, enough))

pub value_payload : (asked : Asked) (reply : Reply) (id : InvokeId) (value : Data) (text : List ℕ)
    → asked.form ≡ asked_form.Get id → reply ≡ Value value
    → text ≡ answer_text (Service (response.Get id (result.Value value)))
    → length text ≤ least_pdu → least_pdu ≤ asked.link.limit
    → text ≡ answer_text (Service (reply_response asked reply))
unfolding reply_response
value_payload asked reply id value text form has is short enough =
    rw (form, has, has_room_for asked.link _ text is short enough) is

pub value_begins_none : (asked : Asked) (reply : Reply) (id : InvokeId) (value : Data)
    (text : List ℕ) → asked.form ≡ asked_form.Get id → reply ≡ Value value
    → text ≡ answer_text (Service (response.Get id (result.Value value)))
    → length text ≤ least_pdu → least_pdu ≤ asked.link.limit
    → outgoing_by asked reply ≡ None
unfolding reply_transfer
value_begins_none asked reply id value text form has is short enough =
    rw (form, has, has_room_for asked.link _ text is short enough) refl

-- a frame with the answer is at the front of the buffer, if it is long enough
pub placed_answer : (asked : Asked) (reply : Reply) (payload : List ℕ) (placed : Option ℕ)
    (buffer buffer' : List ℕ) → payload ≡ answer_text (Service (reply_response asked reply))
    → IfSome placed (λ count. IsPlaced (frame_text (record {
      src = management_device;
      dst = asked.link.source;
      payload = payload;
    })) count buffer buffer')
    → IfSome placed (λ count. IsPlaced (reply_text asked reply) count buffer buffer')
unfolding due_text
placed_answer asked reply payload placed buffer buffer' spells written =
    subst (λ (p : List ℕ). IfSome placed (λ count. IsPlaced (frame_text (record {
      src = management_device;
      dst = asked.link.source;
      payload = p;
    })) count buffer buffer')) spells written

-- the frame of a short answer is short
pub counted_short : (dst : ℕ) (payload : List ℕ) (placed : Option ℕ) (buffer buffer' : List ℕ)
    → length payload ≤ 6
    → IfSome placed (λ count. IsPlaced (frame_text (record {
      src = management_device;
      dst = dst;
      payload = payload;
    })) count buffer buffer')
    → IfSome placed (λ count. count ≤ short_frame)
unfolding due_text
counted_short dst payload None buffer buffer' few written = tt
counted_short dst payload (Some count) buffer buffer' few written =
    omega (arith, few, framed_length dst payload, written.counted)

-- the answer to a reply is short: to a GET of a value of two bytes, to a SET and to an ACTION
pub short_value : (asked : Asked) (reply : Reply) (id : InvokeId) (value : Data)
    → asked.form ≡ asked_form.Get id → reply ≡ Value value → is_two_bytes value ≡ true
    → is_short_answer asked.form reply ≡ true
short_value asked reply id value form has two = rw (form, has) two

pub short_set : (asked : Asked) (reply : Reply) (id : InvokeId)
    → asked.form ≡ asked_form.Set id → is_short_answer asked.form reply ≡ true
short_set asked reply id form = rw form refl

pub short_action : (asked : Asked) (reply : Reply) (id : InvokeId)
    → asked.form ≡ asked_form.Action id → is_short_answer asked.form reply ≡ true
short_action asked reply id form = rw form refl

-- the length of the frame with the answer to a reply
long_reply : (asked : Asked) (reply : Reply) (payload : List ℕ)
    → payload ≡ answer_text (Service (reply_response asked reply))
    → length (reply_text asked reply) ≡ header_size + length payload
long_reply asked reply payload spells =
    subst (λ (p : List ℕ). length (due_text asked.link.source p) ≡ header_size + length payload)
    spells (framed_length asked.link.source payload)

-- a frame with a short answer is written exactly if it fits in the buffer
pub fits_answer : (asked : Asked) (reply : Reply) (payload buffer : List ℕ) (placed : Option ℕ)
    → payload ≡ answer_text (Service (reply_response asked reply)) → length payload ≤ max_payload
    → is_short_answer asked.form reply ≡ true
    → ((placed ≢ None) ↔ ((length payload ≤ max_payload)
    × (header_size + length payload ≤ length buffer)))
    → (placed ≢ None) ↔ IsShortIn buffer asked reply
fits_answer asked reply payload buffer placed spells small short fits =
    let longs = long_reply asked reply payload spells in (
      (λ given. (short, omega (arith, longs, (fits.0 given).1))),
      (λ is. fits.1 (small, omega (arith, longs, is.1))),
    )

-- the answer to a GET of a value of two bytes has six
six_bytes : (id : InvokeId) (value : Data) → is_two_bytes value ≡ true
    → length (answer_text (Service (response.Get id (result.Value value)))) ≡ 6
unfolding answer_text response_text
six_bytes id (Boolean is_on) two = refl
six_bytes id (Enum number) two = refl
six_bytes id _ two = absurd cc

-- a short answer fits in a buffer as long as the longest frame with one
short_fits : (asked : Asked) (level : Level) (id : InvokeId) (request : ShortRequest)
    (reply : Reply) (buffer : List ℕ) → asked.form ≡ short_form id request
    → least_pdu ≤ asked.link.limit → is_short_reply (short_event level request) reply ≡ true
    → short_frame ≤ length buffer → IsShortIn buffer asked reply
unfolding answer_text response_text
short_fits asked level id (short.Get attr) (Value value) buffer form enough is room =
    let six = six_bytes id value is in
    let spells = value_payload asked (Value value) id value _ form refl refl (omega (arith, six))
    enough in (
      short_value asked (Value value) id value form refl is,
      omega (arith, six, room, long_reply asked (Value value) _ spells),
    )
short_fits asked level id (short.Get attr) _ buffer form enough is room = absurd cc
short_fits asked level id (short.Set attr value) reply buffer form enough is room = (
  short_set asked reply id form,
  omega (arith, room, long_reply asked reply _ (set_payload asked reply id form)),
)
short_fits asked level id (short.Action method value) reply buffer form enough is room = (
  short_action asked reply id form,
  omega (arith, room, long_reply asked reply _ (action_payload asked reply id form)),
)

-- the answer to a request that was read fits, if it is short
pub answers_in : (conformance : ℕ) (payload : List ℕ) (asked : Asked)
    (level : Level) (request : ShortRequest) (reply : Reply) (buffer : List ℕ)
    → IsShortRequest conformance payload asked.form request → least_pdu ≤ asked.link.limit
    → is_short_reply (short_event level request) reply ≡ true → short_frame ≤ length buffer
    → IsShortIn buffer asked reply
answers_in conformance payload asked level request reply buffer read enough is room =
    short_fits asked level read.id request reply buffer read.answered enough is room

-- what holds anyway holds if a frame was written
pub if_placed : (placed : Option ℕ) (P : Type 0) → P → IfSome placed (λ count. P)
if_placed (Some count) P holds = holds
if_placed None P holds = tt

-- the frame of the answer is returned at once
pub answers_any : (s t : Session) (asked : Asked) (reply : Reply) (text : List ℕ)
    (outgoing : Option Sending) → s.task ≡ Await asked
    → text ≡ reply_text asked reply → length text ≤ greatest_frame
    → outgoing ≡ outgoing_by asked reply
    → t ≡ record {
      password = s.password;
      deframer = s.deframer;
      is_finished = s.is_finished;
      state = record { link = s.state.link; incoming = s.state.incoming; outgoing = outgoing };
      task = Listen;
    }
    → AnswersBy s reply text t
unfolding is_asking load_of
answers_any s t asked reply text outgoing awaiting e within o after =
    let framed : FramedAnswer = record { text = text; within_max = within } in
    let kept : State = record {
      link = s.state.link;
      incoming = s.state.incoming;
      outgoing = outgoing;
    } in
    let between : Session = record {
      password = s.password;
      deframer = s.deframer;
      is_finished = s.is_finished;
      state = kept;
      task = Send framed;
    } in
    let gives : WorksBy {E = ℕ} between (Ok (Some (next.Send text))) t = subst
    (λ (u : Session). WorksBy {E = ℕ} between (Ok (Some (next.Send text))) u) (sym after)
    (gives_any ℕ between framed Listen refl refl) in
    let before : task_load s.task ≡ 3 = ap task_load awaiting in
    record {
      between = between;
      takes = takes_any s between asked reply framed outgoing awaiting e o refl;
      sends = gives.0;
      silent = gives.1.0;
      less = rw after (omega (arith, before));
    }
