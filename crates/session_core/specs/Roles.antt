-- The role of a request in the transfers in blocks (IEC 62056-5-3, GET, SET and ACTION, block
-- transfer). Only this file distinguishes the forms of requests.
--     Role          the role of a request in a transfer
--     role_of       the role of each request
use Rattle.std.specs.Prelude.{ℕ}
use Rattle.session_core.specs.declared.asked.ReplyForm.{ReplyForm}
use Rattle.session_core.specs.declared.asked.ReplyForm.TheVariants as form
use Rattle.session_core.specs.declared.call.Call.{Call}
use Rattle.session_core.specs.declared.call.Call.TheVariants as call
use Rattle.session_core.specs.declared.incoming.LongService.{LongService}
use Rattle.session_core.specs.declared.incoming.LongService.TheVariants as service
use Rattle.session_core.specs.declared.incoming.Purpose.{Purpose}
use Rattle.session_core.specs.declared.incoming.Purpose.TheVariants as purpose
use Rattle.xdlms_apdu.specs.declared.block.DataBlock.{DataBlock}
use Rattle.xdlms_apdu.specs.declared.request.Request.{Request}
use Rattle.xdlms_apdu.specs.declared.request.Request.TheVariants as request

-- `starts`: the first request of a long SET or ACTION, with its purpose and first block; `follows`:
-- a later request of one; `gets`: a GET, whose answer may be long; `gets_next`: a GET-next, with
-- the block number that it names; `stops`: any other request, which ends all transfers.
pub data Role : Type 0 where
  starts : Purpose → DataBlock → Role
  follows : LongService → DataBlock → Role
  gets : ReplyForm → Role
  gets_next : ℕ → Role
  stops : Role

-- the role of each request of a service: a SET or ACTION that arrives whole stops all transfers
abbrev pub role_of_request : Request → Role
role_of_request (request.Get id target) = gets (form.Get id)
role_of_request (request.GetNext id number) = gets_next number
role_of_request (request.GetList id targets) = gets (form.GetList id)
role_of_request (request.Set id target value) = stops
role_of_request (request.SetFirst id target block) = starts (purpose.Set target) block
role_of_request (request.SetNext id block) = follows service.Set block
role_of_request (request.Action id method parameter) = stops
role_of_request (request.ActionFirst id method block) = starts (purpose.Action method) block
role_of_request (request.ActionNext id block) = follows service.Action block

-- the role of what the client sent: a release and a refused request stop all transfers
abbrev pub role_of : Call → Role
role_of call.Release = stops
role_of (call.Service request) = role_of_request request
role_of (call.Refused exception) = stops
