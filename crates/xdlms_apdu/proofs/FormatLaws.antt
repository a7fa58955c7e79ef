-- The formats of requests and responses are lawful.
--     present_there .. exception_part_lawful    the parts that are no sequences of others
--     request_lawful, response_lawful           the APDUs
use Rattle.std.proofs.Common.{◌≡◌, ◌⊎◌, ℕ, Bool, true, false, Option, Some, None, List, is_some}
use Rattle.std.proofs.Common.{refl, inl, inr, arith}
use Rattle.wire_bytes.specs.ByteFormats.{IsByte, one_of}
use Rattle.wire_bytes.specs.Choice.{Parts, value_of}
use Rattle.wire_bytes.proofs.ByteLaws.{one_of_lawful, byte_formats}
use Rattle.wire_bytes.proofs.Lawful.{IsLawful}
use Rattle.cosem_axdr.specs.Spelling.{IsFit}
use Rattle.cosem_axdr.specs.View.{tree_of}
use Rattle.cosem_axdr.specs.declared.value.Data.TheVariants.{Null}
use Rattle.cosem_axdr.proofs.FormatLaws.{axdr_formats}
use Rattle.cosem_names.specs.declared.result_code.ResultCode.{ResultCode}
use Rattle.cosem_names.specs.declared.service.GetResult.{GetResult}
use Rattle.cosem_names.specs.declared.service.GetResult.TheVariants.{Value, Code}
use Rattle.cosem_names.proofs.Results.{result_lawful}
use Rattle.xdlms_apdu.specs.Parts.{present_if, result_forms, result_parts, result_part, raw_forms}
use Rattle.xdlms_apdu.specs.Parts.{raw_parts, exception_forms, exception_parts, exception_part}
use Rattle.xdlms_apdu.specs.Requests.{request_forms, request_parts, request_format}
use Rattle.xdlms_apdu.specs.Responses.{response_forms, response_parts, response_format}
use Rattle.xdlms_apdu.specs.declared.fault.ApduFault.TheVariants.{UnknownTag, Unreadable}
use Rattle.xdlms_apdu.specs.declared.request.Request.{Request}
use Rattle.xdlms_apdu.specs.declared.request.Request.TheVariants as request
use Rattle.xdlms_apdu.specs.declared.response.Exception.{Exception}
use Rattle.xdlms_apdu.specs.declared.response.Exception.TheVariants as exception
use Rattle.xdlms_apdu.specs.declared.response.Response.{Response}
use Rattle.xdlms_apdu.specs.declared.response.Response.TheVariants as response

-- ---- an access selection

-- its presence is a flag
present_there : (b : Bool) → is_some (present_if b) ≡ b
present_there true = refl
present_there false = refl

present_back : (o : Option (Unit {0})) → present_if (is_some o) ≡ o
present_back (Some nothing) = refl
present_back None = refl

-- what is written for it fits: null-data is the shortest Data
null_fits : IsFit (tree_of Null)
null_fits = record { within = tt; fine = tt; flat = omega arith; short = omega arith }

-- ---- choices

-- A value of a choice is made of its parts, and taken apart into them: each case computes, after
-- the first token that no part has.

result_made : (r : GetResult) → value_of result_forms (result_parts r) ≡ r
result_made (Value value) = refl
result_made (Code code) = refl

made_result : (p : Parts result_forms) → result_parts (value_of result_forms p) ≡ p
made_result (inr (inr none)) = absurd none
made_result p = refl

pub result_part_lawful : IsLawful IsByte result_part
result_part_lawful = one_of_lawful Unreadable result_forms result_parts result_made made_result refl
    (search (axdr_formats, result_lawful))

raw_made : (r : List ℕ ⊎ ResultCode) → value_of raw_forms (raw_parts r) ≡ r
raw_made (inl bytes) = refl
raw_made (inr code) = refl

made_raw : (p : Parts raw_forms) → raw_parts (value_of raw_forms p) ≡ p
made_raw (inr (inr none)) = absurd none
made_raw p = refl

pub raw_or_result_lawful : IsLawful IsByte (one_of Unreadable raw_forms raw_parts)
raw_or_result_lawful = one_of_lawful Unreadable raw_forms raw_parts raw_made made_raw refl
    (search (axdr_formats, result_lawful))

exception_made : (x : Exception) → value_of exception_forms (exception_parts x) ≡ x
exception_made exception.Unknown = refl
exception_made x = refl

made_exception : (p : Parts exception_forms) → exception_parts (value_of exception_forms p) ≡ p
made_exception (inl (inr (inr none))) = absurd none
made_exception (inr (inl (inr none))) = absurd none
made_exception (inr (inr none)) = absurd none
made_exception p = refl

pub exception_part_lawful : IsLawful IsByte exception_part
exception_part_lawful =
    one_of_lawful Unreadable exception_forms exception_parts exception_made made_exception refl
    (search byte_formats)

-- what `search` needs to prove that a format made of the parts is lawful
ruleset part_laws = (
  result_lawful,
  result_part_lawful,
  raw_or_result_lawful,
  exception_part_lawful,
  present_there,
  present_back,
  null_fits,
  axdr_formats,
  byte_formats,
)

-- ---- requests

request_made : (r : Request) → value_of request_forms (request_parts r) ≡ r
request_made (request.Get id target) = refl
request_made r = refl

made_request : (p : Parts request_forms) → request_parts (value_of request_forms p) ≡ p
made_request (inl (inr (inr (inr none)))) = absurd none
made_request (inr (inl (inr (inr (inr none))))) = absurd none
made_request (inr (inr (inl (inr (inr (inr none)))))) = absurd none
made_request (inr (inr (inr none))) = absurd none
made_request p = refl

pub request_lawful : IsLawful IsByte request_format
request_lawful = one_of_lawful UnknownTag request_forms request_parts request_made made_request refl
    (search part_laws depth 20)

-- ---- responses

response_made : (r : Response) → value_of response_forms (response_parts r) ≡ r
response_made (response.Get id result) = refl
response_made r = refl

made_response : (p : Parts response_forms) → response_parts (value_of response_forms p) ≡ p
made_response (inl (inr (inl (id, (last, (number, inl raw)))))) = refl
made_response (inl (inr (inr (inr none)))) = absurd none
made_response (inr (inl (inr (inr (inr none))))) = absurd none
made_response (inr (inr (inl (inr (inr none))))) = absurd none
made_response (inr (inr (inr (inr none)))) = absurd none
made_response p = refl

pub response_lawful : IsLawful IsByte response_format
response_lawful =
    one_of_lawful UnknownTag response_forms response_parts response_made made_response refl
    (search part_laws depth 20)
