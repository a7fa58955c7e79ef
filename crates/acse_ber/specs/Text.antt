-- The written text of each APDU (IEC 62056-5-3, AARQ, AARE, RLRQ and RLRE; BER: ISO/IEC 8825-1),
-- with the shortest lengths.
--     tagged_text                          a tag, the length and the contents
--     aarq_body, aare_body                 the fields
--     aarq_text, aare_text                 whole APDUs
--     low_level_aarq                       the AARQ of a client that authenticates with a password
--     release_request, release_response    the RLRQ and the RLRE that are sent
use Rattle.std.specs.Prelude.{ℕ, Option, Some, None, List, [], ◌∷◌, ◌++◌}
use Rattle.std.proofs.Common.{inl, inr}
use Rattle.cosem_axdr.specs.Spelling.{string_text}
use Rattle.acse_ber.specs.Parts.{proposal_part, info_part, result_part, diagnostic_part}
use Rattle.acse_ber.specs.declared.aarq.Aarq.{Aarq}
use Rattle.acse_ber.specs.declared.aare.Aare.{Aare}
use Rattle.acse_ber.specs.declared.aare.Info.{Info}
use Rattle.acse_ber.specs.declared.aare.Info.TheVariants.{Absent, Response, InitiateError}

-- a tag, the length and the contents
abbrev pub tagged_text : ℕ → List ℕ → List ℕ
tagged_text tag contents = tag ∷ string_text contents

-- the field application-context-name: the context as an OBJECT IDENTIFIER in its tag
abbrev pub context_text : List ℕ → List ℕ
context_text context = tagged_text 0xA1 (tagged_text 0x06 context)

-- the field user-information: the information as an OCTET STRING in its tag
abbrev pub user_text : List ℕ → List ℕ
user_text user = tagged_text 0xBE (tagged_text 0x04 user)

-- the ACSE requirements and the mechanism, if there is one
abbrev pub mechanism_text : List ℕ → List ℕ
mechanism_text [] = []
mechanism_text (byte ∷ bytes) = (0x8A ∷ 0x02 ∷ 0x07 ∷ 0x80 ∷ []) ++ tagged_text 0x8B (byte ∷ bytes)

-- the password, if there is one
abbrev pub password_text : Option (List ℕ) → List ℕ
password_text None = []
password_text (Some password) = tagged_text 0xAC (tagged_text 0x80 password)

-- the fields of an AARQ
abbrev pub aarq_body : Aarq → List ℕ
aarq_body aarq = context_text aarq.context
    ++ (mechanism_text aarq.mechanism ++ (password_text aarq.password ++ user_text aarq.user))

-- the bytes of an AARQ: its tag, its length and its fields
unfoldable pub aarq_text : Aarq → List ℕ
aarq_text aarq = tagged_text 0x60 (aarq_body aarq)

-- the field result of an AARE: 0 if the association is accepted
abbrev pub result_text : ℕ → List ℕ
result_text outcome = tagged_text 0xA2 (result_part.text outcome)

-- the field result-source-diagnostic of an AARE: a diagnostic of the acse-service-user
abbrev pub diagnostic_text : ℕ → List ℕ
diagnostic_text diagnostic = tagged_text 0xA3 (diagnostic_part.text diagnostic)

-- user information, if there is any
abbrev pub info_text : Info → List ℕ
info_text Absent = []
info_text (Response bits limit) = user_text (info_part.text (inl (bits, limit)))
info_text (InitiateError error) = user_text (info_part.text (inr error))

-- the application context of logical names without ciphering (Green Book, application context
-- names)
abbrev pub ln_context : List ℕ
ln_context = 0x60 ∷ 0x85 ∷ 0x74 ∷ 0x05 ∷ 0x08 ∷ 0x01 ∷ 0x01 ∷ []

-- the mechanism of low-level security (Green Book, authentication mechanism names)
abbrev pub low_level : List ℕ
low_level = 0x60 ∷ 0x85 ∷ 0x74 ∷ 0x05 ∷ 0x08 ∷ 0x02 ∷ 0x01 ∷ []

-- an InitiateRequest of version 6 with these bits and this size
abbrev pub request_text : ℕ → ℕ → List ℕ
request_text bits limit =
    proposal_part.text (record { version = 6; conformance = record { 0 = bits }; size = limit })

-- the AARQ of a client with this password, which proposes these bits and this size
unfoldable pub low_level_aarq : List ℕ → ℕ → ℕ → Aarq
low_level_aarq password bits limit =
    record {
      context = ln_context;
      mechanism = low_level;
      password = Some password;
      user = request_text bits limit;
    }

-- the fields of an AARE
abbrev pub aare_body : Aare → List ℕ
aare_body aare = context_text ln_context
    ++ (result_text aare.result ++ (diagnostic_text aare.diagnostic ++ info_text aare.info))

-- the bytes of an AARE: its tag, its length and its fields
unfoldable pub aare_text : Aare → List ℕ
aare_text aare = tagged_text 0x61 (aare_body aare)

-- the reason of a release: an integer of one byte; 0 is normal
abbrev pub reason_text : ℕ → List ℕ
reason_text reason = tagged_text 0x80 (reason ∷ [])

-- the RLRQ that a client sends, with reason normal
abbrev pub release_request : List ℕ
release_request = tagged_text 0x62 (reason_text 0)

-- the RLRE that the meter sends, with reason normal
abbrev pub release_response : List ℕ
release_response = tagged_text 0x63 (reason_text 0)
