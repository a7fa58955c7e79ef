-- Reading the APDUs of the Association Control Service Element (IEC 62056-5-3, AARQ, AARE and
-- RLRQ), in BER (ISO/IEC 8825-1). The only fault is `Unreadable`.
--     Yields, whole_value             how a step of code that reads all of its bytes is compared
--                                     with a definition; a reading of all the bytes
--     tag_contents                    the contents of one tag that fill the bytes
--     fields_of, field_of             the fields of an APDU, in any order, and the field with a tag
--     proposal_of, info_in            the contents of the user information of an AARQ and of an
--                                     AARE
--     aarq_of, aare_of                whole APDUs
--     is_release_text                 whether bytes are an RLRQ
use Rattle.std.specs.Prelude.{◌≡◌, ◌⊎◌, ℕ, zero, suc, not, ◌||◌, ◌==◌, if◌then◌else◌, Bool, true}
use Rattle.std.specs.Prelude.{false, Option, Some, None, unwrap_or, List, [], ◌∷◌, length, Result}
use Rattle.std.specs.Prelude.{Ok, Err, is_ok}
use Rattle.std.proofs.Common.{inl, inr}
use Rattle.wire_bytes.specs.Outcome.{◌>>=◌, ◌>>◌, guard}
use Rattle.wire_bytes.specs.Reading.{whole_or}
use Rattle.acse_ber.specs.Parts.{Field, tagged_part, field_part, proposal_part, info_part, result_part}
use Rattle.acse_ber.specs.Parts.{diagnostic_part}
use Rattle.acse_ber.specs.declared.aarq.Aarq.{Aarq}
use Rattle.acse_ber.specs.declared.aare.Aare.{Aare}
use Rattle.acse_ber.specs.declared.aare.Info.{Info}
use Rattle.acse_ber.specs.declared.aare.Info.TheVariants.{Absent, Response, InitiateError}
use Rattle.acse_ber.specs.declared.fault.AcseFault.{AcseFault}
use Rattle.acse_ber.specs.declared.fault.AcseFault.TheVariants.{Unreadable}
use Rattle.acse_ber.specs.declared.initiate.Proposal.{Proposal}

-- whether a step of the code that reads all of its bytes has the outcome of the definition
abbrev pub Yields : {X Y : Type 0} → (X → Y) → Result X AcseFault → Result Y AcseFault → Type 0
Yields view (Ok x) given = given ≡ Ok (view x)
Yields view (Err fault) given = given ≡ Err fault

-- the value read, if no bytes follow it
abbrev pub whole_value : {X : Type 0} → Result (X × List ℕ) AcseFault → Result X AcseFault
whole_value read = whole_or Unreadable read

-- the contents of this tag, which must fill the bytes
unfoldable pub tag_contents : ℕ → List ℕ → Result (List ℕ) AcseFault
tag_contents tag bytes = whole_value ((tagged_part tag).read bytes)

-- ---- fields

-- the fields that fill the bytes, at most this many
unfoldable pub fields_within : ℕ → List ℕ → Result (List Field) AcseFault
fields_within limit [] = Ok []
fields_within zero (byte ∷ rest) = Err Unreadable
fields_within (suc limit) (byte ∷ rest) = do
  first ← field_part.read (byte ∷ rest)
  others ← fields_within limit first.1
  Ok (first.0 ∷ others)

-- the fields that fill the bytes, however many
abbrev pub fields_of : List ℕ → Result (List Field) AcseFault
fields_of bytes = fields_within (length bytes) bytes

-- the contents of the fields with a tag, in order
abbrev pub contents_of : ℕ → List Field → List (List ℕ)
contents_of tag [] = []
contents_of tag (field ∷ fields) = if field.tag == tag then field.contents ∷ contents_of tag fields
    else contents_of tag fields

-- the only element, if there is one
abbrev pub at_most_one : {X : Type 0} → List X → Result (Option X) AcseFault
at_most_one [] = Ok None
at_most_one (x ∷ []) = Ok (Some x)
at_most_one (x ∷ y ∷ more) = Err Unreadable

-- the same reading, every fault of which is `Unreadable`
abbrev pub plain : {X : Type 0} → Result X AcseFault → Result X AcseFault
plain (Ok x) = Ok x
plain (Err fault) = Err Unreadable

-- the contents of the field with a tag, if it is present; it may not occur twice
unfoldable pub field_of : ℕ → List ℕ → Result (Option (List ℕ)) AcseFault
field_of tag body = plain (fields_of body >>= λ fields. at_most_one (contents_of tag fields))

-- a value that must be present
abbrev pub or_unreadable : {X : Type 0} → Option X → Result X AcseFault
or_unreadable None = Err Unreadable
or_unreadable (Some x) = Ok x

-- a reading of an optional part
abbrev pub optional : {X Y : Type 0} → (X → Result Y AcseFault) → Option X
    → Result (Option Y) AcseFault
optional read None = Ok None
optional read (Some x) = do
  y ← read x
  Ok (Some y)

-- the contents of an inner tag, which must fill the field with the outer tag, if that field is
-- present
unfoldable pub inner_of : ℕ → ℕ → List ℕ → Result (Option (List ℕ)) AcseFault
inner_of tag inner body = do
  contents ← field_of tag body
  optional (tag_contents inner) contents

-- the contents of the field with a tag, which must be present
abbrev pub needed_field : ℕ → List ℕ → Result (List ℕ) AcseFault
needed_field tag body = field_of tag body >>= or_unreadable

-- the contents of an inner tag, which must fill the field with the outer tag, which must be present
abbrev pub needed_inner : ℕ → ℕ → List ℕ → Result (List ℕ) AcseFault
needed_inner tag inner body = inner_of tag inner body >>= or_unreadable

-- ---- user information (IEC 62056-5-3, InitiateRequest, InitiateResponse and
-- ConfirmedServiceError)

-- the InitiateRequest that the bytes are
unfoldable pub proposal_of : List ℕ → Result Proposal AcseFault
proposal_of bytes = whole_value (proposal_part.read bytes)

-- user information that was read as a response or an error
abbrev pub known_info : (ℕ × ℕ) ⊎ ℕ → Info
known_info (inl response) = Response response.0 response.1
known_info (inr error) = InitiateError error

-- the InitiateResponse or the ConfirmedServiceError that the bytes are
abbrev pub known_info_of : List ℕ → Result Info AcseFault
known_info_of bytes = whole_value (info_part.read bytes) >>= λ info. Ok (known_info info)

-- the user information that was read, or absent
abbrev pub or_absent : Result Info AcseFault → Info
or_absent (Ok info) = info
or_absent (Err fault) = Absent

-- the user information of an AARE; anything but a response or an error is read as absent
unfoldable pub info_in : List ℕ → Info
info_in bytes = or_absent (known_info_of bytes)

-- user information, if it is present
abbrev pub info_of : Option (List ℕ) → Info
info_of None = Absent
info_of (Some bytes) = info_in bytes

-- whether user information is an InitiateResponse
abbrev pub is_response : Info → Bool
is_response (Response bits limit) = true
is_response _ = false

-- ---- whole APDUs

-- the fields of an AARQ; the application context and the user information must be present
unfoldable pub aarq_in : List ℕ → Result Aarq AcseFault
aarq_in body = do
  context ← inner_of 0xA1 0x06 body >>= or_unreadable
  mechanism ← field_of 0x8B body
  password ← inner_of 0xAC 0x80 body
  user ← inner_of 0xBE 0x04 body >>= or_unreadable
  Ok (record {
    context = context;
    mechanism = unwrap_or mechanism [];
    password = password;
    user = user;
  })

-- the AARQ that these bytes spell, or the first fault
unfoldable pub aarq_of : List ℕ → Result Aarq AcseFault
aarq_of bytes = tag_contents 0x60 bytes >>= aarq_in

-- the user information of an AARE with this result and diagnostic
unfoldable pub aare_with_diagnostic : ℕ → ℕ → List ℕ → Result Aare AcseFault
aare_with_diagnostic outcome diagnostic body = do
  user ← inner_of 0xBE 0x04 body
  guard (not (outcome == 0) || is_response (info_of user)) Unreadable
  Ok (record { result = outcome; diagnostic = diagnostic; info = info_of user })

-- the diagnostic and the user information of an AARE with this result
unfoldable pub aare_with_result : ℕ → List ℕ → Result Aare AcseFault
aare_with_result outcome body = do
  diagnostic_field ← field_of 0xA3 body >>= or_unreadable
  diagnostic ← whole_value (diagnostic_part.read diagnostic_field)
  aare_with_diagnostic outcome diagnostic body

-- the fields of an AARE; the result and the diagnostic must be present, and an InitiateResponse too
-- if the result accepts
unfoldable pub aare_in : List ℕ → Result Aare AcseFault
aare_in body = do
  result_field ← field_of 0xA2 body >>= or_unreadable
  outcome ← whole_value (result_part.read result_field)
  aare_with_result outcome body

-- the AARE that these bytes spell, or the first fault
unfoldable pub aare_of : List ℕ → Result Aare AcseFault
aare_of bytes = tag_contents 0x61 bytes >>= aare_in

-- whether bytes are an RLRQ: its tag, and fields that fill it
unfoldable pub is_release_text : List ℕ → Bool
is_release_text bytes = is_ok (tag_contents 0x62 bytes >>= fields_of)
