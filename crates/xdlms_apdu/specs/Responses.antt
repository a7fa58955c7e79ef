-- Responses (IEC 62056-5-3, xDLMS APDU): one statement for their reading, text and spelling.
--     get_response_forms .. action_response_forms    the forms of each service
--     response_forms                           the services
--     response_of, response_text               a whole response: reading with the first fault, text
--     IsFitResponse, SpellsResponse            which responses fit, and which bytes spell which
use Rattle.std.specs.Prelude.{ℕ, Bool, ◌⊎◌, List, Result}
use Rattle.std.proofs.Common.{inl, inr}
use Rattle.wire_bytes.specs.ByteFormats.{one_of}
use Rattle.wire_bytes.specs.Choice.{Choice, on, under, otherwise, Parts}
use Rattle.wire_bytes.specs.Format.{◌&◌}
use Rattle.wire_bytes.specs.Reading.{whole_or}
use Rattle.cosem_names.specs.declared.result_code.ResultCode.{ResultCode}
use Rattle.xdlms_apdu.specs.Parts.{Part, number_part, list_part, invoke_id_part, code_part}
use Rattle.xdlms_apdu.specs.Parts.{nothing_part, exception_part, result_part, get_block_part}
use Rattle.xdlms_apdu.specs.declared.fault.ApduFault.{ApduFault}
use Rattle.xdlms_apdu.specs.declared.fault.ApduFault.TheVariants.{UnknownTag, UnknownForm}
use Rattle.xdlms_apdu.specs.declared.fault.ApduFault.TheVariants.{Unreadable}
use Rattle.xdlms_apdu.specs.declared.invoke_id.InvokeId.{InvokeId}
use Rattle.xdlms_apdu.specs.declared.response.Response.{Response}
use Rattle.xdlms_apdu.specs.declared.response.Response.TheVariants as response

-- the response with a block: its raw data, or the result that refuses it
abbrev pub block_response : InvokeId × (Bool × (ℕ × (List ℕ ⊎ ResultCode))) → Response
block_response (id, (last, (number, inl raw))) =
    response.GetBlock id (record { last = last; number = number; raw = raw })
block_response (id, (last, (number, inr code))) = response.GetBlockRefused id last number code

-- Get-Response ::= CHOICE { get-response-normal [1], get-response-with-datablock [2],
--     get-response-with-list [3] }
abbrev pub get_response_forms : Choice ℕ ApduFault Response
get_response_forms =
    on 1 (invoke_id_part & result_part) (λ p. response.Get p.0 p.1) (
    on 2 (invoke_id_part & get_block_part) block_response (
    on 3 (invoke_id_part & list_part result_part) (λ p. response.GetList p.0 p.1) (
    otherwise UnknownForm)))

-- Set-Response ::= CHOICE { set-response-normal [1], set-response-datablock [2],
--     set-response-last-datablock [3], .. }
abbrev pub set_response_forms : Choice ℕ ApduFault Response
set_response_forms =
    on 1 (invoke_id_part & code_part) (λ p. response.Set p.0 p.1) (
    on 2 (invoke_id_part & number_part) (λ p. response.SetBlock p.0 p.1) (
    on 3 (invoke_id_part & code_part & number_part)
    (λ p. response.SetLastBlock p.0 p.1.0 p.1.1) (
    otherwise UnknownForm)))

-- Action-Response ::= CHOICE { action-response-normal [1], action-response-next-pblock [4], .. }
abbrev pub action_response_forms : Choice ℕ ApduFault Response
action_response_forms =
    on 1 (invoke_id_part & code_part & nothing_part) (λ p. response.Action p.0 p.1.0) (
    on 4 (invoke_id_part & number_part) (λ p. response.ActionBlock p.0 p.1) (
    otherwise UnknownForm))

-- xDLMS-APDU ::= CHOICE { .., get-response [196], set-response [197], action-response [199], ..,
--     exception-response [216], .. }
abbrev pub response_forms : Choice ℕ ApduFault Response
response_forms =
    under 0xC4 Unreadable get_response_forms (
    under 0xC5 Unreadable set_response_forms (
    under 0xC7 Unreadable action_response_forms (
    on 0xD8 exception_part response.Exception (
    otherwise UnknownTag))))

-- the place of each response in the tables, and its parts
abbrev pub response_parts : Response → Parts response_forms
response_parts (response.Get id result) = inl (inl (id, result))
response_parts (response.GetBlock id block) =
    inl (inr (inl (id, (block.last, (block.number, inl block.raw)))))
response_parts (response.GetBlockRefused id last number code) =
    inl (inr (inl (id, (last, (number, inr code)))))
response_parts (response.GetList id results) = inl (inr (inr (inl (id, results))))
response_parts (response.Set id code) = inr (inl (inl (id, code)))
response_parts (response.SetBlock id number) = inr (inl (inr (inl (id, number))))
response_parts (response.SetLastBlock id code number) =
    inr (inl (inr (inr (inl (id, (code, number))))))
response_parts (response.Action id code) = inr (inr (inl (inl (id, (code, tt)))))
response_parts (response.ActionBlock id number) = inr (inr (inl (inr (inl (id, number)))))
response_parts (response.Exception exception) = inr (inr (inr (inl exception)))

-- the format of a response; no bytes at all have no tag
abbrev pub response_format : Part Response
response_format = one_of UnknownTag response_forms response_parts

-- ---- whole responses

-- the response that the bytes spell, or the first fault; bytes after it are unreadable
unfoldable pub response_of : List ℕ → Result Response ApduFault
response_of bytes = whole_or Unreadable (response_format.read bytes)

-- the text of a response, with the shortest lengths
unfoldable pub response_text : Response → List ℕ
response_text response = response_format.text response

-- whether the numbers, lengths and Data of a response are within their limits, so that its text is
-- read back
abbrev pub IsFitResponse : Response → Type 0
IsFitResponse response = response_format.Fits response

-- whether the bytes spell the response
unfoldable pub SpellsResponse : List ℕ → Response → Type 0
SpellsResponse bytes response = response_format.Spells response bytes
