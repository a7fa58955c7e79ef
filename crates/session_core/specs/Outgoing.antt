-- Answers that are sent in blocks (IEC 62056-5-3, GET with datablocks).
--     transfer_after                           a transfer after some of its blocks were sent
--     transfer_after_next, continued_response  the transfer after a GET-next, and the answer
--     LongAnswer .. reply_response             the answer to the reply of an event
--     reply_transfer, outgoing_by              the transfer that this answer begins
use Rattle.std.specs.Prelude.{ℕ, ◌+◌, ◌-◌, ◌*◌, ◌==◌, ◌&&◌, nat_le, bit_and, not, true, false, if◌then◌else◌, Bool, Option, Some, None, option_and_then, List, length, drop}
use Rattle.acse_ber.specs.Conformance.{get_in_blocks}
use Rattle.cosem_axdr.specs.declared.value.Data.{Data}
use Rattle.cosem_names.specs.declared.result_code.ResultCode.{ResultCode}
use Rattle.cosem_names.specs.declared.result_code.ResultCode.TheVariants.{NoLongGetInProgress, DataBlockNumberInvalid, OtherReason}
use Rattle.cosem_names.specs.declared.service.GetResult.{GetResult}
use Rattle.cosem_names.specs.declared.service.GetResult.TheVariants as result
use Rattle.relay_events.specs.declared.reply.Reply.{Reply}
use Rattle.relay_events.specs.declared.reply.Reply.TheVariants.{Value, Values, Code}
use Rattle.session_core.specs.Standard.{block_header}
use Rattle.session_core.specs.declared.asked.Asked.{Asked}
use Rattle.session_core.specs.declared.asked.ReplyForm.{ReplyForm}
use Rattle.session_core.specs.declared.asked.ReplyForm.TheVariants as form
use Rattle.session_core.specs.declared.link.Link.{Link}
use Rattle.xdlms_apdu.specs.Parts.{data_part, list_part, result_part}
use Rattle.xdlms_apdu.specs.Responses.{response_text}
use Rattle.xdlms_apdu.specs.declared.invoke_id.InvokeId.{InvokeId}
use Rattle.xdlms_apdu.specs.declared.response.Response.{Response}
use Rattle.xdlms_apdu.specs.declared.response.Response.TheVariants as response
use Rattle.xdlms_blocks.specs.Blocks.{new_sending}
use Rattle.xdlms_blocks.specs.Limits.{max_blocks}
use Rattle.xdlms_blocks.specs.Sending.{next_piece}
use Rattle.xdlms_blocks.specs.Transfer.{Sending}
use Rattle.xdlms_blocks.specs.declared.blocks.Piece.{Piece}
use Rattle.xdlms_blocks.specs.declared.fault.BlockFault.{BlockFault}
use Rattle.xdlms_blocks.specs.declared.fault.BlockFault.TheVariants.{NoTransfer, WrongNumber}

-- ---- a GET-next

-- a transfer after `number` blocks were sent, or none if that is the whole text
abbrev pub transfer_after : ℕ → Sending → Option Sending
transfer_after number s = if nat_le (length s.text) (number * s.size) then None
    else Some (record { text = s.text; number = number; size = s.size; is_open = true })

-- the result code of a fault
abbrev pub get_code : BlockFault → ResultCode
get_code NoTransfer = NoLongGetInProgress
get_code WrongNumber = DataBlockNumberInvalid
get_code _ = OtherReason

-- why there is no next block after this one: there is no transfer, or another block was sent last
abbrev pub next_fault : ℕ → Sending → Option BlockFault
next_fault number s = if not s.is_open then Some NoTransfer else if number == s.number then None
    else Some WrongNumber

-- the answer that carries a block
abbrev pub block_response : InvokeId → Piece → Response
block_response id piece =
    response.GetBlock id (record { last = piece.last; number = piece.number; raw = piece.raw })

-- the answer to a GET-next, by why there is no next block: a refusal with that result, else the
-- next block
abbrev pub response_by_fault : InvokeId → ℕ → Sending → Option BlockFault → Response
response_by_fault id number s (Some fault) =
    response.GetBlockRefused id true number (get_code fault)
response_by_fault id number s None = block_response id (next_piece s)

-- the answer to a GET-next, which names the block last received
unfoldable pub continued_response : InvokeId → ℕ → Option Sending → Response
continued_response id number None = response.GetBlockRefused id true number (get_code NoTransfer)
continued_response id number (Some s) = response_by_fault id number s (next_fault number s)

-- the transfer after a GET-next, by why there is no next block: a refusal ends it, and so does its
-- last block
abbrev pub sending_by_fault : Sending → Option BlockFault → Option Sending
sending_by_fault s (Some fault) = None
sending_by_fault s None = transfer_after (s.number + 1) s

-- the transfer after a GET-next: a refusal and the last block end it
unfoldable pub transfer_after_next : ℕ → Option Sending → Option Sending
transfer_after_next number None = None
transfer_after_next number (Some s) = sending_by_fault s (next_fault number s)

-- ---- the reply to an event

-- the transfer of a text before its first block, to a client with this limit
abbrev pub unsent_transfer : ℕ → List ℕ → Sending
unsent_transfer limit raw = new_sending raw (limit - block_header)

-- A normal answer that may be too long, and those of its bytes that would be sent in blocks.
pub record LongAnswer : Type 0 where
  pub id : InvokeId
  pub normal : Response
  pub raw : List ℕ

-- the answer to a GET of one attribute with its value; in blocks, the Data of the value is sent
abbrev pub value_answer : InvokeId → Data → LongAnswer
value_answer id value =
    record { id = id; normal = response.Get id (result.Value value); raw = data_part.text value }

-- the answer to a GET of several attributes with their results; in blocks, the list of results is
-- sent
abbrev pub values_answer : InvokeId → List GetResult → LongAnswer
values_answer id results =
    record {
      id = id;
      normal = response.GetList id results;
      raw = (list_part result_part).text results;
    }

-- the answer with a reply's values, if the form is of a GET and the reply has values
abbrev pub long_answer : ReplyForm → Reply → Option LongAnswer
long_answer (form.Get id) (Value value) = Some (value_answer id value)
long_answer (form.GetList id) (Values results) = Some (values_answer id results)
long_answer _ _ = None

-- the result code of a reply; OtherReason for a reply of another kind
abbrev pub reply_code : Reply → ResultCode
reply_code (Code code) = code
reply_code _ = OtherReason

-- whether a reply has no value
abbrev pub is_valueless : Reply → Bool
is_valueless (Value value) = false
is_valueless (Values results) = false
is_valueless _ = true

-- the answer that has only a result code
abbrev pub code_response : ReplyForm → ResultCode → Response
code_response (form.Get id) code = response.Get id (result.Code code)
code_response (form.GetList id) code = response.Get id (result.Code code)
code_response (form.Set id) code = response.Set id code
code_response (form.SetLastBlock id number) code = response.SetLastBlock id code number
code_response (form.Action id) code = response.Action id code

-- the form of the answer to a request
abbrev pub form_of : Asked → ReplyForm
form_of asked = asked.form

-- the index of the result code in an answer that has only a result code
abbrev pub code_place : ReplyForm → ℕ
code_place (form.Get id) = 4
code_place (form.GetList id) = 4
code_place (form.Set id) = 3
code_place (form.SetLastBlock id number) = 3
code_place (form.Action id) = 3

-- whether an answer fits in the client's PDU size
abbrev pub has_room : Link → Response → Bool
has_room link normal = nat_le (length (response_text normal)) link.limit

-- whether bytes can be sent to the client in blocks: block transfer was negotiated, and the block
-- numbers suffice
abbrev pub can_go_in_blocks : Link → List ℕ → Bool
can_go_in_blocks link raw =
    bit_and link.conformance.0 get_in_blocks == get_in_blocks && nat_le (length raw) (max_blocks
    * (link.limit - block_header))

-- the answer with values: whole if it fits, else its first block, else other-reason
abbrev pub long_response : Link → LongAnswer → Response
long_response link answer =
    if has_room link answer.normal then answer.normal
    else if can_go_in_blocks link answer.raw
    then block_response answer.id (next_piece (unsent_transfer link.limit answer.raw))
    else response.Get answer.id (result.Code OtherReason)

-- the text that the answer begins to send in blocks, if it does
abbrev pub long_text : Link → LongAnswer → Option Sending
long_text link answer =
    if has_room link answer.normal then None
    else if can_go_in_blocks link answer.raw then Some (unsent_transfer link.limit answer.raw)
    else None

-- the answer to a reply: whole or its first block if the reply has values, else its result code
abbrev pub response_by : Asked → Reply → Option LongAnswer → Response
response_by asked reply (Some answer) = long_response asked.link answer
response_by asked reply None = code_response asked.form (reply_code reply)

-- the answer to the reply of an event
unfoldable pub reply_response : Asked → Reply → Response
reply_response asked reply = response_by asked reply (long_answer asked.form reply)

-- the text that is sent in blocks, if the reply is too long for one answer
unfoldable pub reply_transfer : Asked → Reply → Option Sending
reply_transfer asked reply = option_and_then (long_text asked.link) (long_answer asked.form reply)

-- the long GET in progress after the answer, which has the first block
abbrev pub outgoing_by : Asked → Reply → Option Sending
outgoing_by asked reply = option_and_then (transfer_after 1) (reply_transfer asked reply)

-- ---- what the code's values mean

-- the answer with values that do not fit in one PDU: the first block of these bytes, else
-- other-reason
abbrev pub response_in_blocks : Link → InvokeId → List ℕ → Response
response_in_blocks link id raw =
    if can_go_in_blocks link raw then block_response id
    (next_piece (unsent_transfer link.limit raw))
    else response.Get id (result.Code OtherReason)

-- the text that this answer begins to send in blocks, if it does
abbrev pub text_in_blocks : Link → List ℕ → Option Sending
text_in_blocks link raw = if can_go_in_blocks link raw then Some (unsent_transfer link.limit raw)
    else None

-- an answer whose first `header` bytes are not sent in blocks
abbrev pub answer_with_header : InvokeId → Response → ℕ → LongAnswer
answer_with_header id normal header =
    record { id = id; normal = normal; raw = drop header (response_text normal) }

-- the reply whose values a response has
abbrev pub reply_in : Response → Reply
reply_in (response.Get id (result.Value value)) = Value value
reply_in (response.Get id (result.Code code)) = Code code
reply_in (response.GetList id results) = Values results
reply_in _ = Code OtherReason
