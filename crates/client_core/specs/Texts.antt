-- The messages that a client sends, each in a frame from port 1 to port 1.
--     aarq_payload        the association request (IEC 62056-5-3, AARQ, low-level security)
--     request_payload     the one request of a job (IEC 62056-5-3, ACTION and GET; IEC 62056-6-2,
--                         class 70)
--     request_of          the same request, as xdlms_apdu has it
--     release_payload     the release of the association (IEC 62056-5-3, RLRQ)
--     text_at             the message at an index of a list
use Rattle.std.specs.Prelude.{ℕ, zero, suc, ◌+◌, pos, false, Option, Some, None, List, [], ◌∷◌, ◌++◌, length}
use Rattle.wrapper_frame.specs.Text.{frame_text}
use Rattle.cosem_axdr.specs.declared.value.Data.TheVariants.{Integer}
use Rattle.cosem_names.specs.declared.name.Obis.{Obis}
use Rattle.cosem_names.specs.declared.name.MethodRef.{MethodRef}
use Rattle.xdlms_apdu.specs.declared.invoke_id.InvokeId.{InvokeId}
use Rattle.xdlms_apdu.specs.declared.request.Request.{Request}
use Rattle.xdlms_apdu.specs.declared.request.Request.TheVariants as request
use Rattle.client_core.specs.declared.job.Verb.{Verb}
use Rattle.client_core.specs.declared.job.Verb.TheVariants.{Disconnect, Reconnect, ReadState}

-- the fields of the AARQ before the password: the context of logical names without ciphering, the
-- ACSE requirements with authentication, and low-level security
abbrev pub opening_fields : List ℕ
opening_fields =
    0xA1 ∷ 0x09 ∷ 0x06 ∷ 0x07 ∷ 0x60 ∷ 0x85 ∷ 0x74 ∷ 0x05 ∷ 0x08 ∷ 0x01 ∷ 0x01
    ∷ 0x8A ∷ 0x02 ∷ 0x07 ∷ 0x80
    ∷ 0x8B ∷ 0x07 ∷ 0x60 ∷ 0x85 ∷ 0x74 ∷ 0x05 ∷ 0x08 ∷ 0x02 ∷ 0x01 ∷ []

-- the field after the password: an InitiateRequest of version 6 that proposes the services 001C19
-- hex and a maximum APDU size of 1,024 bytes
abbrev pub initiate_field : List ℕ
initiate_field =
    0xBE ∷ 0x10 ∷ 0x04 ∷ 0x0E ∷ 0x01 ∷ 0x00 ∷ 0x00 ∷ 0x00 ∷ 0x06
    ∷ 0x5F ∷ 0x1F ∷ 0x04 ∷ 0x00 ∷ 0x00 ∷ 0x1C ∷ 0x19 ∷ 0x04 ∷ 0x00 ∷ []

-- the AARQ with a password of at most 32 bytes
abbrev pub aarq_payload : List ℕ → List ℕ
aarq_payload password =
    0x60 ∷ (46 + length password)
    ∷ (opening_fields ++ (0xAC ∷ (2 + length password) ∷ 0x80 ∷ length password
    ∷ (password ++ initiate_field)))

-- the ACTION that invokes a method of the disconnect control 0.0.96.3.10.255 with the parameter
-- integer 0
abbrev pub action_payload : ℕ → List ℕ
action_payload method =
    0xC3 ∷ 0x01 ∷ 0xC1 ∷ 0x00 ∷ 0x46 ∷ 0x00 ∷ 0x00 ∷ 0x60 ∷ 0x03 ∷ 0x0A ∷ 0xFF ∷ method ∷ 0x01
    ∷ 0x0F ∷ 0x00 ∷ []

-- the request of a job: an ACTION of remote_disconnect or remote_reconnect, or a GET of
-- control_state
abbrev pub request_payload : Verb → List ℕ
request_payload Disconnect = action_payload 1
request_payload Reconnect = action_payload 2
request_payload ReadState =
    0xC0 ∷ 0x01 ∷ 0xC1 ∷ 0x00 ∷ 0x46 ∷ 0x00 ∷ 0x00 ∷ 0x60 ∷ 0x03 ∷ 0x0A ∷ 0xFF ∷ 0x03 ∷ 0x00 ∷ []

-- the RLRQ, with reason normal
abbrev pub release_payload : List ℕ
release_payload = 0x62 ∷ 0x03 ∷ 0x80 ∷ 0x01 ∷ 0x00 ∷ []

-- the invoke-id-and-priority of the request: invoke-id 1, confirmed, high priority
abbrev pub request_id : InvokeId
request_id = record { 0 = 0xC1 }

-- the logical name of the disconnect control, 0.0.96.3.10.255
abbrev pub supply_name : Obis
supply_name = record { 0 = 0 ∷ 0 ∷ 96 ∷ 3 ∷ 10 ∷ 255 ∷ [] }

-- a method of the disconnect control
abbrev pub supply_method : ℕ → MethodRef
supply_method number = record { class = record { 0 = 70 }; name = supply_name; number = number }

-- the invocation of a method of the disconnect control, as xdlms_apdu has it
abbrev pub action_of : ℕ → Request
action_of method = request.Action request_id (supply_method method) (Some (Integer (pos 0)))

-- the request of a job, as xdlms_apdu has it
abbrev pub request_of : Verb → Request
request_of Disconnect = action_of 1
request_of Reconnect = action_of 2
request_of ReadState = request.Get request_id (record {
  attr = record { class = record { 0 = 70 }; name = supply_name; number = 3 };
  selected = false;
})

-- a payload in a frame from port 1 to port 1 (IEC 62056-4-7)
abbrev pub frame_around : List ℕ → List ℕ
frame_around payload = frame_text (record { src = 1; dst = 1; payload = payload })

-- the first message of a job: the AARQ with this password, in a frame
unfoldable pub aarq_frame : List ℕ → List ℕ
aarq_frame password = frame_around (aarq_payload password)

-- the second message of a job: its request, in a frame
unfoldable pub request_frame : Verb → List ℕ
request_frame verb = frame_around (request_payload verb)

-- the third message of a job: the RLRQ, in a frame
unfoldable pub release_frame : List ℕ
release_frame = frame_around release_payload

-- the message at an index, or none after the last
abbrev pub text_at : List (List ℕ) → ℕ → Option (List ℕ)
text_at [] place = None
text_at (text ∷ texts) zero = Some text
text_at (text ∷ texts) (suc place) = text_at texts place
