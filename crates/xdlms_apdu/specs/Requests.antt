-- Requests (IEC 62056-5-3, xDLMS APDU): one statement for their reading, text and spelling.
--     get_forms, set_forms, action_forms    the forms of each service
--     request_forms                         the services
--     request_of, request_text              a whole request: reading with the first fault, and text
--     IsFitRequest, SpellsRequest           which requests fit, and which bytes spell which request
use Rattle.std.specs.Prelude.{ℕ, List, Result}
use Rattle.std.proofs.Common.{inl, inr}
use Rattle.wire_bytes.specs.ByteFormats.{one_of}
use Rattle.wire_bytes.specs.Choice.{Choice, on, under, otherwise, Parts}
use Rattle.wire_bytes.specs.Format.{◌&◌}
use Rattle.wire_bytes.specs.Reading.{whole_or}
use Rattle.xdlms_apdu.specs.Parts.{Part, number_part, data_part, list_part, invoke_id_part}
use Rattle.xdlms_apdu.specs.Parts.{method_part, target_part, parameter_part, block_part}
use Rattle.xdlms_apdu.specs.declared.fault.ApduFault.{ApduFault}
use Rattle.xdlms_apdu.specs.declared.fault.ApduFault.TheVariants.{UnknownTag, UnknownForm}
use Rattle.xdlms_apdu.specs.declared.fault.ApduFault.TheVariants.{Unreadable}
use Rattle.xdlms_apdu.specs.declared.request.Request.{Request}
use Rattle.xdlms_apdu.specs.declared.request.Request.TheVariants as request

-- Get-Request ::= CHOICE { get-request-normal [1], get-request-next [2],
--     get-request-with-list [3] }
abbrev pub get_forms : Choice ℕ ApduFault Request
get_forms =
    on 1 (invoke_id_part & target_part) (λ p. request.Get p.0 p.1) (
    on 2 (invoke_id_part & number_part) (λ p. request.GetNext p.0 p.1) (
    on 3 (invoke_id_part & list_part target_part) (λ p. request.GetList p.0 p.1) (
    otherwise UnknownForm)))

-- Set-Request ::= CHOICE { set-request-normal [1], set-request-with-first-datablock [2],
--     set-request-with-datablock [3], .. }
abbrev pub set_forms : Choice ℕ ApduFault Request
set_forms =
    on 1 (invoke_id_part & target_part & data_part) (λ p. request.Set p.0 p.1.0 p.1.1) (
    on 2 (invoke_id_part & target_part & block_part) (λ p. request.SetFirst p.0 p.1.0 p.1.1) (
    on 3 (invoke_id_part & block_part) (λ p. request.SetNext p.0 p.1) (
    otherwise UnknownForm)))

-- Action-Request ::= CHOICE { action-request-normal [1], action-request-with-first-pblock [4],
--     action-request-with-pblock [6], .. }
abbrev pub action_forms : Choice ℕ ApduFault Request
action_forms =
    on 1 (invoke_id_part & method_part & parameter_part) (λ p. request.Action p.0 p.1.0 p.1.1) (
    on 4 (invoke_id_part & method_part & block_part) (λ p. request.ActionFirst p.0 p.1.0 p.1.1) (
    on 6 (invoke_id_part & block_part) (λ p. request.ActionNext p.0 p.1) (
    otherwise UnknownForm)))

-- xDLMS-APDU ::= CHOICE { get-request [192], set-request [193], action-request [195], .. }
abbrev pub request_forms : Choice ℕ ApduFault Request
request_forms =
    under 0xC0 Unreadable get_forms (
    under 0xC1 Unreadable set_forms (
    under 0xC3 Unreadable action_forms (
    otherwise UnknownTag)))

-- the place of each request in the tables, and its parts
abbrev pub request_parts : Request → Parts request_forms
request_parts (request.Get id target) = inl (inl (id, target))
request_parts (request.GetNext id number) = inl (inr (inl (id, number)))
request_parts (request.GetList id targets) = inl (inr (inr (inl (id, targets))))
request_parts (request.Set id target value) = inr (inl (inl (id, (target, value))))
request_parts (request.SetFirst id target block) = inr (inl (inr (inl (id, (target, block)))))
request_parts (request.SetNext id block) = inr (inl (inr (inr (inl (id, block)))))
request_parts (request.Action id method given) = inr (inr (inl (inl (id, (method, given)))))
request_parts (request.ActionFirst id method block) =
    inr (inr (inl (inr (inl (id, (method, block))))))
request_parts (request.ActionNext id block) = inr (inr (inl (inr (inr (inl (id, block))))))

-- the format of a request; no bytes at all have no tag
abbrev pub request_format : Part Request
request_format = one_of UnknownTag request_forms request_parts

-- ---- whole requests

-- the request that the bytes spell, or the first fault; bytes after it are unreadable
unfoldable pub request_of : List ℕ → Result Request ApduFault
request_of bytes = whole_or Unreadable (request_format.read bytes)

-- the text of a request, with the shortest lengths
unfoldable pub request_text : Request → List ℕ
request_text request = request_format.text request

-- whether the numbers, lengths and Data of a request are within their limits, so that its text is
-- read back
abbrev pub IsFitRequest : Request → Type 0
IsFitRequest request = request_format.Fits request

-- whether the bytes spell the request
unfoldable pub SpellsRequest : List ℕ → Request → Type 0
SpellsRequest bytes request = request_format.Spells request bytes
