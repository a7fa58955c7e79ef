-- The meaning of a meter's responses for a job.
--     Progress             a Rust struct: whether the request may be sent, and the outcome if it is
--                          settled
--     progress_after_aare  the meaning of the first response, to the AARQ
--     outcome_of_response  the meaning of the second response, to the request
use Rattle.std.specs.Prelude.{ℕ, Bool, false, true, not, ◌&&◌, ◌==◌, nat_le, if◌then◌else◌, bit_and, Some, None, List, [], ◌∷◌, take, Result, Ok, Err}
use Rattle.acse_ber.specs.Reading.{aare_of}
use Rattle.acse_ber.specs.declared.aare.Aare.{Aare}
use Rattle.acse_ber.specs.declared.aare.Info.{Info}
use Rattle.acse_ber.specs.declared.aare.Info.TheVariants.{Absent, Response, InitiateError}
use Rattle.acse_ber.specs.declared.fault.AcseFault.{AcseFault}
use Rattle.client_core.specs.declared.job.Verb.{Verb}
use Rattle.client_core.specs.declared.job.Verb.TheVariants.{Disconnect, Reconnect, ReadState}
use Rattle.client_core.specs.declared.job.Outcome.{Outcome}
use Rattle.client_core.specs.declared.job.Outcome.TheVariants.{Done, Refused, Rejected, Unknown}
use Rattle.client_core.specs.declared.progress.Progress.{Progress}
use Rattle.cosem_axdr.specs.declared.value.Data.TheVariants.{Enum}
use Rattle.cosem_names.specs.declared.result_code.ResultCode.TheVariants.{Success}
use Rattle.cosem_names.specs.declared.service.GetResult.TheVariants as result
use Rattle.xdlms_apdu.specs.Responses.{response_format}
use Rattle.xdlms_apdu.specs.declared.response.Response.TheVariants as response
use Rattle.client_core.specs.Texts.{request_id}

-- ---- the response to the AARQ (IEC 62056-5-3, AARE)

-- the progress of a job before any response
abbrev pub new_progress : Progress
new_progress = record { accepted = false; outcome = None }

-- the progress of a job whose association is open: the request may be sent
abbrev pub asking_progress : Progress
asking_progress = record { accepted = true; outcome = None }

-- the progress of a job whose outcome is settled by the response to the AARQ, so that no request is
-- sent
abbrev pub with_outcome : Outcome → Progress
with_outcome outcome = record { accepted = false; outcome = Some outcome }

-- the bit of the request's service in the conformance block, whose bit 0 is the highest of 24 (IEC
-- 62056-5-3): GET is bit 19, ACTION bit 23
abbrev pub service_bit : Verb → ℕ
service_bit Disconnect = 0x000001
service_bit Reconnect = 0x000001
service_bit ReadState = 0x000010

-- whether the negotiated services include that of the request
abbrev pub is_granted : Verb → Info → Bool
is_granted verb (Response bits limit) = not (bit_and bits (service_bit verb) == 0)
is_granted verb Absent = false
is_granted verb (InitiateError code) = false

-- an AARE opens the association or settles the outcome; any other bytes settle it as unknown
abbrev pub progress_by_aare : Verb → Result Aare AcseFault → Progress
progress_by_aare verb (Ok aare) =
    if aare.result == 0 then (if is_granted verb aare.info then asking_progress
    else with_outcome (Rejected 0))
    else with_outcome (Rejected aare.diagnostic)
progress_by_aare verb (Err fault) = with_outcome Unknown

-- the progress after the first payload, which should be an AARE
unfoldable pub progress_after_aare : Verb → List ℕ → Progress
progress_after_aare verb payload = progress_by_aare verb (aare_of payload)

-- ---- the response to the request (IEC 62056-5-3, ACTION and GET; IEC 62056-6-2, class 70,
-- control_state)

-- the first three bytes of an Action-Response-Normal to the request, up to its result
abbrev pub action_front : List ℕ
action_front = take 3 (response_format.text (response.Action request_id Success))

-- the first four bytes of a Get-Response-Normal with a result instead of a value, up to that result
abbrev pub refused_front : List ℕ
refused_front = take 4 (response_format.text (response.Get request_id (result.Code Success)))

-- the first five bytes of a Get-Response-Normal with a control state, up to the tag of its enum
abbrev pub state_front : List ℕ
state_front = take 5 (response_format.text (response.Get request_id (result.Value (Enum 0))))

-- the bytes of `action_front`, as numbers (proofs/Fronts.antt)
abbrev pub action_bytes : List ℕ
action_bytes = 0xC7 ∷ 0x01 ∷ 0xC1 ∷ []

-- the bytes of `refused_front`, as numbers
abbrev pub refused_bytes : List ℕ
refused_bytes = 0xC4 ∷ 0x01 ∷ 0xC1 ∷ 0x01 ∷ []

-- the bytes of `state_front`, as numbers
abbrev pub state_bytes : List ℕ
state_bytes = 0xC4 ∷ 0x01 ∷ 0xC1 ∷ 0x00 ∷ 0x16 ∷ []

-- whether two texts are the same
abbrev pub is_text : List ℕ → List ℕ → Bool
is_text [] [] = true
is_text (a ∷ one) (b ∷ other) = a == b && is_text one other
is_text _ _ = false

-- Action-Response-Normal, by its first bytes: a result, and any further bytes
abbrev pub action_reply : List ℕ → List ℕ → Outcome
action_reply front (tag ∷ form ∷ id ∷ code ∷ tail) = if is_text (tag ∷ form ∷ id ∷ []) front
    then (if code == 0 then Done 0 else Refused code) else Unknown
action_reply front _ = Unknown

-- Get-Response-Normal with no further bytes, by its first bytes: a result other than 0, or the
-- control state
abbrev pub state_reply : List ℕ → List ℕ → List ℕ → Outcome
state_reply refused front (tag ∷ form ∷ id ∷ choice ∷ code ∷ []) =
    if is_text (tag ∷ form ∷ id ∷ choice ∷ []) refused && not (code == 0)
    then Refused code else Unknown
state_reply refused front (tag ∷ form ∷ id ∷ choice ∷ kind ∷ state ∷ []) =
    if is_text (tag ∷ form ∷ id ∷ choice ∷ kind ∷ []) front && nat_le state 2
    then Done state else Unknown
state_reply refused front _ = Unknown

-- the outcome of a job by the second payload, which should be the response to its request
unfoldable pub outcome_of_response : Verb → List ℕ → Outcome
outcome_of_response Disconnect payload = action_reply action_front payload
outcome_of_response Reconnect payload = action_reply action_front payload
outcome_of_response ReadState payload = state_reply refused_front state_front payload
