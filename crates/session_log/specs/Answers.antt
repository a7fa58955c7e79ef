-- The meaning of a meter's answers for the log of its server (IEC 62056-5-3).
--     answer_of       the meaning of a payload
--     answer_of_aare  .. of an AARE
--     answer_of_read, answer_of_response, answer_of_result, answer_of_code
--                     .. of a payload that is no AARE, of a response, and of its parts
use Rattle.std.specs.Prelude.{ℕ, ◌==◌, if◌then◌else◌, List, Result, Ok, Err}
use Rattle.acse_ber.specs.Reading.{aare_of}
use Rattle.acse_ber.specs.declared.aare.Aare.{Aare}
use Rattle.acse_ber.specs.declared.fault.AcseFault.{AcseFault}
use Rattle.cosem_names.specs.declared.result_code.ResultCode.{ResultCode}
use Rattle.cosem_names.specs.ResultCode.{code_of}
use Rattle.cosem_names.specs.declared.service.GetResult.{GetResult}
use Rattle.cosem_names.specs.declared.service.GetResult.TheVariants.{Value, Code}
use Rattle.session_log.specs.declared.answer.AnswerKind.{AnswerKind}
use Rattle.session_log.specs.declared.answer.AnswerKind.TheVariants.{Opened, NotOpened, Served}
use Rattle.session_log.specs.declared.answer.AnswerKind.TheVariants.{Refused, Other}
use Rattle.xdlms_apdu.specs.Responses.{response_of}
use Rattle.xdlms_apdu.specs.declared.fault.ApduFault.{ApduFault}
use Rattle.xdlms_apdu.specs.declared.response.Response.{Response}
use Rattle.xdlms_apdu.specs.declared.response.Response.TheVariants as response

-- the meaning of an AARE for the log: result 0 opens the association, any other refuses it with the
-- diagnostic
abbrev pub answer_of_aare : Aare → AnswerKind
answer_of_aare aare = if aare.result == 0 then Opened else NotOpened aare.diagnostic

-- the meaning of an answer with a result code: 0 is success, and any other a refusal
abbrev pub answer_of_code : ResultCode → AnswerKind
answer_of_code code = if code_of code == 0 then Served else Refused

-- the meaning of the result of a GET of one attribute: served if it is a value, else refused
abbrev pub answer_of_result : GetResult → AnswerKind
answer_of_result (Value value) = Served
answer_of_result (Code code) = Refused

-- the meaning of a response: by its result if it has one; the results in a list are not looked at
abbrev pub answer_of_response : Response → AnswerKind
answer_of_response (response.Get id result) = answer_of_result result
answer_of_response (response.GetBlock id block) = Served
answer_of_response (response.GetBlockRefused id last number code) = Refused
answer_of_response (response.GetList id results) = Served
answer_of_response (response.Set id code) = answer_of_code code
answer_of_response (response.SetBlock id number) = Served
answer_of_response (response.SetLastBlock id code number) = answer_of_code code
answer_of_response (response.Action id code) = answer_of_code code
answer_of_response (response.ActionBlock id number) = Served
answer_of_response (response.Exception fields) = Refused

-- the meaning of a payload that is no AARE: that of its response, or other if it is none
abbrev pub answer_of_read : Result Response ApduFault → AnswerKind
answer_of_read (Ok response) = answer_of_response response
answer_of_read (Err fault) = Other

-- the meaning of a payload, by reading it as an AARE and, if it is none, as a response
abbrev pub answer_of_either : Result Aare AcseFault → Result Response ApduFault → AnswerKind
answer_of_either (Ok aare) read = answer_of_aare aare
answer_of_either (Err fault) read = answer_of_read read

-- the meaning of the payload of an answer
unfoldable pub answer_of : List ℕ → AnswerKind
answer_of payload = answer_of_either (aare_of payload) (response_of payload)
