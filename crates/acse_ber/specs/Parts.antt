-- The parts of the ACSE APDUs as formats (IEC 62056-5-3, AARQ and AARE; BER: ISO/IEC 8825-1), each
-- with its ASN.1.
--     literal, part_after             expected bytes, and a part after them
--     length_part .. field_part       a length, contents after their length, a tag, a field
--     proposal_part .. info_part      user information
--     result_part, diagnostic_part    the result and the diagnostic of an AARE
use Rattle.std.specs.Prelude.{◌≡◌, ◌⊎◌, ℕ, ◌^◌, ◌<◌, ◌&&◌, ◌==◌, nat_lt, nat_le, if◌then◌else◌}
use Rattle.std.specs.Prelude.{Bool, true, false, Option, Some, None, List, [], ◌∷◌, length}
use Rattle.std.specs.Prelude.{bytes_eq, Result, Ok, Err}
use Rattle.std.proofs.Common.{inl, inr}
use Rattle.std.specs.Int.{w16, w32, from_be_bytes, bytes_high_first}
use Rattle.wire_bytes.specs.ByteFormats.{same_byte, byte, octets, number, one_of}
use Rattle.wire_bytes.specs.Choice.{Choice, on, otherwise, Parts}
use Rattle.wire_bytes.specs.Format.{Format, IsJoined, iso, empty, ◌▷◌, ◌&◌, exactly}
use Rattle.wire_bytes.specs.Format.{placeholder}
use Rattle.wire_bytes.specs.Outcome.{◌>>=◌, ◌>>◌, guard}
use Rattle.wire_bytes.specs.Reading.{read_as, first_bytes}
use Rattle.cosem_axdr.specs.Spelling.{length_text, string_text, IsUnsigned}
use Rattle.acse_ber.specs.declared.fault.AcseFault.{AcseFault}
use Rattle.acse_ber.specs.declared.fault.AcseFault.TheVariants.{Unreadable}
use Rattle.acse_ber.specs.declared.initiate.Proposal.{Proposal}

-- a part of an APDU; every fault is `Unreadable`
abbrev pub Part : Type 0 → Type 1
Part A = Format ℕ AcseFault A

-- ---- bytes

-- one byte of any value
abbrev pub byte_part : Part ℕ
byte_part = byte Unreadable

-- a number of two bytes
abbrev pub size_part : Part ℕ
size_part = number Unreadable w16

-- the expected bytes, and no others
abbrev pub literal : List ℕ → Part (Unit {0})
literal expected = record {
  read = λ bytes. first_bytes Unreadable (length expected) bytes
      >>= λ there. guard (bytes_eq there.0 expected) Unreadable >> Ok (tt, there.1);
  text = λ nothing. expected;
  Fits = λ nothing. Unit {0};
  Spells = λ nothing bytes. bytes ≡ expected;
}

-- a part after the expected bytes
abbrev pub part_after : {A : Type 0} → List ℕ → Part A → Part A
part_after head part = iso (λ both. both.1) (λ a. (tt, a)) (literal head & part)

-- a part whose value passes a test
abbrev pub with_test : {A : Type 0} → (A → Bool) → Part A → Part A
with_test test part = record {
  read = λ bytes. part.read bytes >>= λ a. guard (test a.0) Unreadable >> Ok a;
  text = part.text;
  Fits = λ a. (test a ≡ true) × part.Fits a;
  Spells = λ a bytes. (test a ≡ true) × part.Spells a bytes;
}

-- ---- lengths and tags

-- whether bytes are a length in one of its forms: one byte below 80 hex, 81 hex and one byte, or 82
-- hex and two
abbrev pub IsLength : List ℕ → ℕ → Type 0
IsLength text n =
    ((n < 0x80) × (text ≡ n ∷ []))
    ⊎ ((text ≡ 0x81 ∷ n ∷ []) ⊎ ((two : List ℕ) × (text ≡ 0x82 ∷ two) × IsUnsigned w16 two n))

-- the length at the front of bytes and the bytes after it; unreadable if its first byte is 80 hex
-- or above 82 hex, or bytes are missing
unfoldable pub length_read : List ℕ → Result (ℕ × List ℕ) AcseFault
length_read bytes = do
  first ← byte_part.read bytes
  if nat_lt first.0 0x80 then Ok first else
      if first.0 == 0x81 then byte_part.read first.1 else
      if first.0 == 0x82 then size_part.read first.1 else
      Err Unreadable

-- a length in any of its forms, even if a shorter one would do; the shortest is written
abbrev pub length_part : Part ℕ
length_part = record {
  read = length_read;
  text = length_text;
  Fits = λ n. n < 2 ^ 16;
  Spells = λ n bytes. IsLength bytes n;
}

-- a length followed by that number of bytes
abbrev pub contents_part : Part (List ℕ)
contents_part = record {
  read = λ bytes. read_as (λ p. p.1) ((length_part ▷ octets Unreadable).read bytes);
  text = string_text;
  Fits = λ contents. length contents < 2 ^ 16;
  Spells = λ contents bytes.
      IsJoined (λ text. IsLength text (length contents)) (λ rest. rest ≡ contents) bytes;
}

-- this tag, followed by the length of its contents and the contents
abbrev pub tagged_part : ℕ → Part (List ℕ)
tagged_part tag = iso (λ both. both.1) (λ contents. (tt, contents))
    (exactly same_byte Unreadable tag & contents_part)

-- a field of an APDU
pub record Field : Type 0 where
  pub tag : ℕ
  pub contents : List ℕ

-- whether the tag of a field is context-specific
abbrev pub is_field_tag : ℕ → Bool
is_field_tag tag = nat_le 0x80 tag && nat_le tag 0xBF

-- a field: its tag, the length and the contents
abbrev pub field_part : Part Field
field_part = iso (λ both. record { tag = both.0; contents = both.1 })
    (λ field. (field.tag, field.contents)) (with_test is_field_tag byte_part & contents_part)

-- ---- user information

-- the two forms of an optional byte: 00 hex if it is absent, 01 hex followed by the byte if it is
-- present
abbrev pub byte_forms : Choice ℕ AcseFault (Option ℕ)
byte_forms = on 0x00 empty (λ none. None) (on 0x01 byte_part Some (otherwise Unreadable))

-- the form in which an optional byte is written: the first if it is absent, the second with the
-- byte
abbrev pub byte_parts : Option ℕ → Parts byte_forms
byte_parts None = inl tt
byte_parts (Some n) = inr (inl n)

-- an optional byte of user information, which is read and discarded; it is written as absent
abbrev pub optional_byte : Part (Unit {0})
optional_byte = placeholder None (one_of Unreadable byte_forms byte_parts)

-- three bytes that hold 24 bits, bit 0 the highest
abbrev pub bits_part : Part ℕ
bits_part = record {
  read = λ bytes. read_as (λ three. from_be_bytes w32 (0x00 ∷ three))
      (first_bytes Unreadable 3 bytes);
  text = λ bits. bytes_high_first 3 bits;
  Fits = λ bits. bits < 2 ^ 24;
  Spells = λ bits bytes. (length bytes ≡ 3) × (bits ≡ from_be_bytes w32 (0x00 ∷ bytes));
}

-- Conformance ::= [APPLICATION 31] IMPLICIT BIT STRING (SIZE(24))
abbrev pub conformance_part : Part ℕ
conformance_part = part_after (0x5F ∷ 0x1F ∷ 0x04 ∷ 0x00 ∷ []) bits_part

-- the last three elements of an InitiateRequest: version, conformance and maximum APDU size
abbrev pub proposed_part : Part Proposal
proposed_part = iso
    (λ p. record { version = p.0; conformance = record { 0 = p.1.0 }; size = p.1.1 })
    (λ r. (r.version, (r.conformance.0, r.size))) (byte_part & conformance_part & size_part)

-- InitiateRequest ::= [1] SEQUENCE
--     { dedicated-key OCTET STRING OPTIONAL, response-allowed BOOLEAN DEFAULT TRUE,
--       proposed-quality-of-service Integer8 OPTIONAL, proposed-dlms-version-number Unsigned8,
--       proposed-conformance Conformance, client-max-receive-pdu-size Unsigned16 },
-- without a dedicated key, of which the last three elements are kept
abbrev pub proposal_part : Part Proposal
proposal_part = iso (λ p. p.1.1) (λ r. (tt, (tt, r)))
    (part_after (0x01 ∷ 0x00 ∷ []) optional_byte & optional_byte & proposed_part)

-- InitiateResponse ::= [8] SEQUENCE
--     { negotiated-quality-of-service Integer8 OPTIONAL, negotiated-dlms-version-number Unsigned8,
--       negotiated-conformance Conformance, server-max-receive-pdu-size Unsigned16,
--       vaa-name ObjectName },
-- of which the conformance and the size are kept; version 6 and the name 0007 are written
abbrev pub response_part : Part (ℕ × ℕ)
response_part = iso (λ p. (p.1.1.0, p.1.1.1.0)) (λ r. (tt, (tt, (r.0, (r.1, tt)))))
    (optional_byte & placeholder 0x06 byte_part & conformance_part & size_part
    & placeholder (0x00 ∷ 0x07 ∷ []) (octets Unreadable 2))

-- an InitiateResponse, or a ConfirmedServiceError ::= CHOICE
--     { initiateError [1] ServiceError, .. } with ServiceError ::= CHOICE
--     { .., initiate [6] ENUMERATED, .. }
abbrev pub info_forms : Choice ℕ AcseFault ((ℕ × ℕ) ⊎ ℕ)
info_forms =
    on 0x08 response_part inl (
    on 0x0E (part_after (0x01 ∷ 0x06 ∷ []) byte_part) inr (
    otherwise Unreadable))

-- the form in which user information is written: an InitiateResponse, or the code of an
-- initiateError
abbrev pub info_parts : (ℕ × ℕ) ⊎ ℕ → Parts info_forms
info_parts (inl response) = inl response
info_parts (inr error) = inr (inl error)

-- the user information of an AARE: the conformance and the size of an InitiateResponse, or the code
-- of an initiateError
abbrev pub info_part : Part ((ℕ × ℕ) ⊎ ℕ)
info_part = one_of Unreadable info_forms info_parts

-- ---- the result and the diagnostic of an AARE

-- Association-result ::= INTEGER, of one byte
abbrev pub result_part : Part ℕ
result_part = part_after (0x02 ∷ 0x01 ∷ []) byte_part

-- the tag of a diagnostic's source: A1 hex for acse-service-user, `true`, and A2 hex for
-- acse-service-provider, `false`
abbrev pub source_forms : Choice ℕ AcseFault Bool
source_forms = on 0xA1 empty (λ u. true) (on 0xA2 empty (λ u. false) (otherwise Unreadable))

-- the form in which the source of a diagnostic is written: its tag, without contents
abbrev pub source_parts : Bool → Parts source_forms
source_parts true = inl tt
source_parts false = inr (inl tt)

-- Associate-source-diagnostic ::= CHOICE
--     { acse-service-user [1] INTEGER, acse-service-provider [2] INTEGER }, of one byte, of which
-- the source is discarded; the service user is written
abbrev pub diagnostic_part : Part ℕ
diagnostic_part = iso (λ p. p.1) (λ d. (tt, d))
    (placeholder true (one_of Unreadable source_forms source_parts)
    & part_after (0x03 ∷ 0x02 ∷ 0x01 ∷ []) byte_part)
