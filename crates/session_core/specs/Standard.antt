-- The values that the standards fix for a session.
--     aarq_tag .. action_tag                    the tags of a client's requests (IEC 62056-5-3)
--     request_forms                             the forms of requests, and the services that each
--                                               needs (IEC 62056-5-3, conformance block)
--     result_accepted .. null_diagnostic        the results and diagnostics of an association (IEC
--                                               62056-5-3, AARE)
--     management_client, management_device      the ports of the wrapper (IEC 62056-4-7)
--     least_pdu .. greatest_frame               the sizes of PDUs and frames
use Rattle.std.specs.Prelude.{ℕ, ◌+◌, List, [], ◌∷◌}
use Rattle.acse_ber.specs.Conformance.{get_in_blocks, set_in_blocks, action_in_blocks, multiple_references, get_service, set_service, action_service}
use Rattle.session_core.specs.declared.conformance.RequestForm.{RequestForm}
use Rattle.wrapper_frame.specs.Header.{header_size}

-- ---- tags

-- the tag of an AARQ, the request for an association
abbrev pub aarq_tag : ℕ
aarq_tag = 0x60

-- the tag of an RLRQ, the request for a release
abbrev pub rlrq_tag : ℕ
rlrq_tag = 0x62

-- the tag of a Get-Request
abbrev pub get_tag : ℕ
get_tag = 0xC0

-- the tag of a Set-Request
abbrev pub set_tag : ℕ
set_tag = 0xC1

-- the tag of an Action-Request
abbrev pub action_tag : ℕ
action_tag = 0xC3

-- ---- the forms of requests

-- a form: the tag of its service, the number of its choice, and the conformance bits that must be
-- negotiated
abbrev form : ℕ → ℕ → ℕ → RequestForm
form tag number needs = record { tag = tag; number = number; needs = record { 0 = needs } }

-- GET: normal, next and with-list; SET: normal, with-first-datablock and with-datablock; ACTION:
-- normal, with-first-pblock and with-pblock
abbrev pub request_forms : List RequestForm
request_forms =
    form get_tag 1 get_service
    ∷ form get_tag 2 (get_service + get_in_blocks)
    ∷ form get_tag 3 (get_service + multiple_references)
    ∷ form set_tag 1 set_service
    ∷ form set_tag 2 (set_service + set_in_blocks)
    ∷ form set_tag 3 (set_service + set_in_blocks)
    ∷ form action_tag 1 action_service
    ∷ form action_tag 4 (action_service + action_in_blocks)
    ∷ form action_tag 6 (action_service + action_in_blocks)
    ∷ []

-- ---- an AARE

-- the association result accepted
abbrev pub result_accepted : ℕ
result_accepted = 0

-- the association result rejected-permanent
abbrev pub result_rejected : ℕ
result_rejected = 1

-- the diagnostic null of acse-service-user; the others are in acse_ber/specs/Diagnostics.antt
abbrev pub null_diagnostic : ℕ
null_diagnostic = 0

-- ---- ports

-- the port of the meter's management logical device
abbrev pub management_device : ℕ
management_device = 1

-- the port of the management client
abbrev pub management_client : ℕ
management_client = 1

-- ---- sizes, in bytes

-- the smallest PDU size that a client may propose, in bytes
abbrev pub least_pdu : ℕ
least_pdu = 64

-- the longest PDU that the meter sends and receives, in bytes
abbrev pub greatest_pdu : ℕ
greatest_pdu = 1024

-- the length of a Get-Response-With-Datablock before its raw bytes: tag, choice,
-- invoke-id-and-priority, last-block, block-number (4), the choice raw-data, and a length of at
-- most 3 bytes
abbrev pub block_header : ℕ
block_header = 3 + 1 + 4 + 1 + 3

-- the largest number of raw bytes in a block
abbrev pub greatest_raw : ℕ
greatest_raw = 1012

-- the longest frame that the meter sends, in bytes: the wrapper's header and a PDU
abbrev pub greatest_frame : ℕ
greatest_frame = header_size + greatest_pdu
