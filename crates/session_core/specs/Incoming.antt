-- Requests that arrive in blocks (IEC 62056-5-3, SET and ACTION with datablocks).
--     block_response, refusal_response, block_code  the answers to a block, and their results
--     fault_of                          why a block is not added
--     whole_outcome                     the outcome of the joined bytes
--     block_outcome_of, block_after     the outcome of a block, and the transfer after it
use Rattle.std.specs.Prelude.{ℕ, Bool, ◌+◌, ◌==◌, nat_lt, not, false, true, if◌then◌else◌, Option, Some, None, List, [], ◌++◌, length, Result, Ok, Err}
use Rattle.cosem_axdr.specs.Reading.{first_data}
use Rattle.cosem_axdr.specs.declared.fault.DataFault.{DataFault}
use Rattle.cosem_axdr.specs.declared.value.Data.{Data}
use Rattle.cosem_names.specs.declared.level.Level.{Level}
use Rattle.cosem_names.specs.declared.result_code.ResultCode.{ResultCode}
use Rattle.cosem_names.specs.declared.result_code.ResultCode.TheVariants.{NoLongGetInProgress, NoLongSetInProgress, DataBlockNumberInvalid, OtherReason}
use Rattle.relay_events.specs.declared.event.Event.{Event}
use Rattle.relay_events.specs.declared.event.Event.TheVariants as event
use Rattle.session_core.specs.Outcome.{Outcome, asks, says}
use Rattle.session_core.specs.declared.answer.Answer.TheVariants.{Service}
use Rattle.session_core.specs.declared.asked.ReplyForm.{ReplyForm}
use Rattle.session_core.specs.declared.asked.ReplyForm.TheVariants as form
use Rattle.session_core.specs.declared.incoming.Added.{Added}
use Rattle.session_core.specs.declared.incoming.Added.TheVariants.{Continues, Refused, Whole}
use Rattle.session_core.specs.declared.incoming.Incoming.{Incoming}
use Rattle.session_core.specs.declared.joined.Joined.{Joined}
use Rattle.session_core.specs.declared.incoming.LongService.{LongService}
use Rattle.session_core.specs.declared.incoming.LongService.TheVariants as service
use Rattle.session_core.specs.declared.incoming.Purpose.{Purpose}
use Rattle.session_core.specs.declared.incoming.Purpose.TheVariants as purpose
use Rattle.session_core.specs.declared.link.Link.{Link}
use Rattle.xdlms_apdu.specs.declared.block.DataBlock.{DataBlock}
use Rattle.xdlms_apdu.specs.declared.invoke_id.InvokeId.{InvokeId}
use Rattle.xdlms_apdu.specs.declared.response.Response.{Response}
use Rattle.xdlms_apdu.specs.declared.response.Response.TheVariants as response
use Rattle.xdlms_blocks.specs.Joining.{joining_after_block}
use Rattle.xdlms_blocks.specs.Limits.{max_joined}
use Rattle.xdlms_blocks.specs.Transfer.{Joining}
use Rattle.xdlms_blocks.specs.declared.fault.BlockFault.{BlockFault}
use Rattle.xdlms_blocks.specs.declared.fault.BlockFault.TheVariants.{NoTransfer, WrongNumber, TooLong}

-- ---- answers

-- the answer to a block that is not the last
abbrev pub block_response : LongService → InvokeId → ℕ → Response
block_response service.Set id number = response.SetBlock id number
block_response service.Action id number = response.ActionBlock id number

-- the answer that ends a transfer with this result
abbrev pub refusal_response : LongService → InvokeId → ℕ → ResultCode → Response
refusal_response service.Set id number code = response.SetLastBlock id code number
refusal_response service.Action id number code = response.Action id code

-- the result code of a fault
abbrev pub block_code : LongService → BlockFault → ResultCode
block_code service.Set NoTransfer = NoLongSetInProgress
block_code service.Set WrongNumber = DataBlockNumberInvalid
block_code service.Action NoTransfer = NoLongGetInProgress
block_code _ _ = OtherReason

-- the service of a purpose
abbrev pub service_of : Purpose → LongService
service_of (purpose.Set target) = service.Set
service_of (purpose.Action method) = service.Action

-- ---- the joined bytes

-- the Data that was read, if it takes up all bytes
abbrev pub complete_value : ℕ → Result (Data × ℕ) DataFault → Option Data
complete_value size (Ok read) = if read.1 == size then Some read.0 else None
complete_value size (Err fault) = None

-- the value in the joined bytes of a transfer, if they are exactly one Data
unfoldable pub whole_data : List ℕ → Option Data
whole_data bytes = complete_value (length bytes) (first_data bytes)

-- the event of a transfer whose blocks contain this value
abbrev pub event_by : Level → Purpose → Data → Event
event_by level (purpose.Set target) value = event.Set level target.attr target.selected value
event_by level (purpose.Action method) value = event.Execute level method (Some value)

-- the form of the answer to that event's reply
abbrev pub form_by : Purpose → InvokeId → ℕ → ReplyForm
form_by (purpose.Set target) id number = form.SetLastBlock id number
form_by (purpose.Action method) id number = form.Action id

-- the outcome of the joined bytes, by the value in them: its event, or a refusal with other-reason
-- if there is none
abbrev pub outcome_by_data : Joined → Option Data → Outcome
outcome_by_data j (Some value) =
    asks (event_by j.link.level j.purpose value)
    (record { link = j.link; form = form_by j.purpose j.id j.number })
outcome_by_data j None =
    says j.link.source (Service (refusal_response (service_of j.purpose) j.id j.number OtherReason))

-- the outcome of the joined bytes: the event of their value, or a refusal if they are not exactly
-- one Data
unfoldable pub whole_outcome : Joined → Outcome
whole_outcome j = outcome_by_data j (whole_data j.bytes)

-- ---- one block

-- why a block is not added: there is no transfer, it has the wrong number, or there are too many
-- bytes
abbrev pub fault_of : DataBlock → Joining → Option BlockFault
fault_of block j =
    if not j.is_open then Some NoTransfer
    else if not (block.number == j.number + 1) then Some WrongNumber
    else if nat_lt max_joined (length j.bytes + length block.raw) then Some TooLong
    else None

-- a transfer without blocks
abbrev pub no_blocks : Joining
no_blocks = record { number = 0; bytes = []; is_open = true }

-- the whole transfer, once its last block is added
abbrev pub joined_after_block : Link → InvokeId → Purpose → DataBlock → Joining → Joined
joined_after_block link id purpose block j =
    record {
      link = link;
      purpose = purpose;
      id = id;
      number = block.number;
      bytes = j.bytes ++ block.raw;
    }

-- the outcome of a block, by why it is not added: a refusal with that result; else the outcome of
-- the whole transfer for the last block, and an acknowledgement for any other
abbrev pub outcome_by_fault : Link → InvokeId → Purpose → DataBlock → Joining → Option BlockFault
    → Outcome
outcome_by_fault link id purpose block j (Some fault) =
    says link.source (Service
    (refusal_response (service_of purpose) id block.number (block_code (service_of purpose) fault)))
outcome_by_fault link id purpose block j None =
    if block.last then whole_outcome (joined_after_block link id purpose block j)
    else says link.source (Service (block_response (service_of purpose) id block.number))

-- the outcome of a block
unfoldable pub block_outcome_of : Link → InvokeId → Purpose → DataBlock → Joining → Outcome
block_outcome_of link id purpose block j =
    outcome_by_fault link id purpose block j (fault_of block j)

-- the transfer after a block, by why it is not added: a refused block and the last block end it
abbrev pub after_by_fault : Purpose → DataBlock → Joining → Option BlockFault → Option Incoming
after_by_fault purpose block j (Some fault) = None
after_by_fault purpose block j None = if block.last then None
    else Some (record { purpose = purpose; blocks = joining_after_block false block.raw j })

-- the transfer after a block: a refusal and the last block end it
unfoldable pub block_after : Purpose → DataBlock → Joining → Option Incoming
block_after purpose block j = after_by_fault purpose block j (fault_of block j)

-- ---- a later block

-- whether a transfer is of this service
abbrev pub is_of : LongService → Purpose → Bool
is_of service.Set (purpose.Set target) = true
is_of service.Set (purpose.Action method) = false
is_of service.Action (purpose.Set target) = false
is_of service.Action (purpose.Action method) = true

-- the transfer in progress, if it is of this service
abbrev pub transfer_of : LongService → Option Incoming → Option Incoming
transfer_of service None = None
transfer_of service (Some incoming) = if is_of service incoming.purpose then Some incoming else None

-- the outcome of a later block of a transfer
abbrev pub later_outcome : Link → LongService → InvokeId → DataBlock → Option Incoming → Outcome
later_outcome link service id block None =
    says link.source (Service (refusal_response service id block.number
    (block_code service NoTransfer)))
later_outcome link service id block (Some incoming) =
    block_outcome_of link id incoming.purpose block incoming.blocks

-- the transfer after a later block
abbrev pub later_after : DataBlock → Option Incoming → Option Incoming
later_after block None = None
later_after block (Some incoming) = block_after incoming.purpose block incoming.blocks

-- ---- what the code's values mean

-- the outcome that the code's result means
abbrev pub outcome_of_added : Added → Outcome
outcome_of_added (Continues due) = says due.to due.answer
outcome_of_added (Refused due) = says due.to due.answer
outcome_of_added (Whole joined) = whole_outcome joined

-- the transfer after the code has added a block
abbrev pub after_adding : Added → Incoming → Option Incoming
after_adding (Continues due) incoming = Some incoming
after_adding (Refused due) incoming = None
after_adding (Whole joined) incoming = None

-- whether the transfer has ended
abbrev pub is_over : Added → Bool
is_over (Continues due) = false
is_over (Refused due) = true
is_over (Whole joined) = true
