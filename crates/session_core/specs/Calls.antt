-- The request in the payload of a frame (IEC 62056-5-3, AARQ, RLRQ, GET, SET and ACTION).
--     tag_is, is_opening, is_call     by its first byte
--     is_negotiated                   by its form, which must be known and negotiated
--     call_of                         by the whole payload
--     short_event, short_form         the event of a short request, and the form of its answer
--     IsShortRequest                  the payload is this short request
use Rattle.std.specs.Prelude.{◌≡◌, ℕ, Bool, true, false, ◌||◌, ◌&&◌, ◌==◌, bit_and, find, Option, Some, None, if◌then◌else◌, List, [], ◌∷◌, Result, Ok, Err}
use Rattle.std.specs.Int.{w8, cast_signed}
use Rattle.acse_ber.specs.Reading.{is_release_text}
use Rattle.cosem_axdr.specs.declared.value.Data.TheVariants.{Enum, Integer}
use Rattle.cosem_names.specs.declared.level.Level.{Level}
use Rattle.relay_events.specs.declared.event.Event.{Event}
use Rattle.relay_events.specs.declared.event.Event.TheVariants as event
use Rattle.session_core.specs.Standard.{aarq_tag, rlrq_tag, request_forms, get_tag, set_tag, action_tag}
use Rattle.session_core.specs.declared.asked.ReplyForm.{ReplyForm}
use Rattle.session_core.specs.declared.asked.ReplyForm.TheVariants as form
use Rattle.session_core.specs.declared.call.Call.{Call}
use Rattle.session_core.specs.declared.call.Call.TheVariants.{Release, Service, Refused}
use Rattle.session_core.specs.declared.conformance.RequestForm.{RequestForm}
use Rattle.session_core.specs.declared.short_request.ShortRequest.{ShortRequest}
use Rattle.session_core.specs.declared.short_request.ShortRequest.TheVariants as short
use Rattle.xdlms_apdu.specs.Requests.{request_of}
use Rattle.xdlms_apdu.specs.declared.fault.ApduFault.{ApduFault}
use Rattle.xdlms_apdu.specs.declared.invoke_id.InvokeId.{InvokeId}
use Rattle.xdlms_apdu.specs.declared.request.Request.{Request}
use Rattle.xdlms_apdu.specs.declared.request.Request.TheVariants.{Get, Set, Action}
use Rattle.xdlms_apdu.specs.declared.response.Exception.TheVariants.{Unknown, Unreadable}

-- whether the payload begins with this tag
abbrev pub tag_is : ℕ → List ℕ → Bool
tag_is tag [] = false
tag_is tag (first ∷ rest) = first == tag

-- whether the payload is an AARQ, readable or not
abbrev pub is_opening : List ℕ → Bool
is_opening payload = tag_is aarq_tag payload

-- whether the payload is a release or a service, readable or not
abbrev pub is_call : List ℕ → Bool
is_call payload = tag_is rlrq_tag payload || tag_is get_tag payload || tag_is set_tag payload ||
    tag_is action_tag payload

-- the form of a request with this tag and choice number, if there is one
unfoldable pub request_form : ℕ → ℕ → Option RequestForm
request_form tag number = find (λ form. form.tag == tag && form.number == number) request_forms

-- whether all conformance bits that a form needs were negotiated (IEC 62056-5-3, conformance block)
abbrev pub has_bits : ℕ → Option RequestForm → Bool
has_bits conformance None = false
has_bits conformance (Some form) = bit_and conformance form.needs.0 == form.needs.0

-- whether the form is known and all conformance bits it needs were negotiated
unfoldable pub is_negotiated : ℕ → ℕ → ℕ → Bool
is_negotiated conformance tag number = has_bits conformance (request_form tag number)

-- a request, or its refusal if it was not readable
abbrev pub call_by : Result Request ApduFault → Call
call_by (Ok request) = Service request
call_by (Err fault) = Refused Unreadable

-- the request in a service's payload: a tag alone is not readable, and the form is judged before
-- the body
abbrev pub request_call : ℕ → List ℕ → Call
request_call conformance [] = Refused Unreadable
request_call conformance (tag ∷ []) = Refused Unreadable
request_call conformance (tag ∷ form ∷ body) = if is_negotiated conformance tag form
    then call_by (request_of (tag ∷ form ∷ body)) else Refused Unknown

-- the request in a payload, given the negotiated conformance bits
unfoldable pub call_of : ℕ → List ℕ → Call
call_of conformance payload =
    if tag_is rlrq_tag payload
    then (if is_release_text payload then Release else Refused Unreadable)
    else request_call conformance payload

-- the whole request that is this short one
abbrev pub whole_request : InvokeId → ShortRequest → Request
whole_request id (short.Get attr) = Get id (record { attr = attr; selected = false })
whole_request id (short.Set attr value) =
    Set id (record { attr = attr; selected = false }) (Enum value)
whole_request id (short.Action method value) =
    Action id method (Some (Integer (cast_signed w8 value)))

-- its event, from a client of this level
abbrev pub short_event : Level → ShortRequest → Event
short_event level (short.Get attr) = event.Get level attr false
short_event level (short.Set attr value) = event.Set level attr false (Enum value)
short_event level (short.Action method value) =
    event.Execute level method (Some (Integer (cast_signed w8 value)))

-- the form of its answer
abbrev pub short_form : InvokeId → ShortRequest → ReplyForm
short_form id (short.Get attr) = form.Get id
short_form id (short.Set attr value) = form.Set id
short_form id (short.Action method value) = form.Action id

-- whether the payload is this short request, whole, and this is the form of its answer
pub record IsShortRequest (conformance : ℕ) (payload : List ℕ) (answered_by : ReplyForm)
    (request : ShortRequest) : Type 0 where
  pub id : InvokeId
  pub answered : answered_by ≡ short_form id request
  pub opens : is_opening payload ≡ false
  pub calls : is_call payload ≡ true
  pub call : call_of conformance payload ≡ Service (whole_request id request)
