-- Which bytes spell which APDU (IEC 62056-5-3, AARQ, AARE and RLRQ; BER: ISO/IEC 8825-1).
--     IsApdu                                   fields, in any order, that fill an APDU
--     HasNone, HasOne, HasInner                the presence of fields with a tag
--     SpellsAarq, SpellsAare, SpellsRelease    whole APDUs
use Rattle.std.specs.Prelude.{◌≡◌, ◌⊎◌, ℕ, true, Option, Some, None, List, [], ◌∷◌}
use Rattle.std.proofs.Common.{inl, inr}
use Rattle.wire_bytes.specs.Format.{AreItems}
use Rattle.acse_ber.specs.Parts.{Field, tagged_part, field_part, info_part, result_part, diagnostic_part}
use Rattle.acse_ber.specs.Reading.{contents_of, is_response}
use Rattle.acse_ber.specs.declared.aarq.Aarq.{Aarq}
use Rattle.acse_ber.specs.declared.aare.Aare.{Aare}
use Rattle.acse_ber.specs.declared.aare.Info.{Info}
use Rattle.acse_ber.specs.declared.aare.Info.TheVariants.{Absent, Response, InitiateError}

-- ---- fields

-- whether bytes are an APDU with this tag, filled by these fields
pub record IsApdu (tag : ℕ) (fields : List Field) (bytes : List ℕ) : Type 0 where
  pub body : List ℕ
  pub is_tagged : (tagged_part tag).Spells body bytes
  pub are_fields : AreItems field_part.Spells fields body

-- whether no field has the tag
abbrev pub HasNone : ℕ → List Field → Type 0
HasNone tag fields = contents_of tag fields ≡ []

-- whether exactly one field has the tag, and its contents have this property
pub record HasOne (tag : ℕ) (Holds : List ℕ → Type 0) (fields : List Field) : Type 0 where
  pub contents : List ℕ
  pub one : contents_of tag fields ≡ contents ∷ []
  pub holds : Holds contents

-- whether no field has the tag, for `None`, or exactly one has it and is filled by an inner tag
-- with this text
abbrev pub HasInner : ℕ → ℕ → List Field → Option (List ℕ) → Type 0
HasInner tag inner fields None = HasNone tag fields
HasInner tag inner fields (Some text) = HasOne tag ((tagged_part inner).Spells text) fields

-- ---- AARQ

-- whether the fields have this mechanism: no field, if it is empty
abbrev pub HasMechanism : List Field → List ℕ → Type 0
HasMechanism fields mechanism = (HasNone 0x8B fields × (mechanism ≡ []))
    ⊎ HasOne 0x8B (λ contents. contents ≡ mechanism) fields

-- whether bytes spell the AARQ
pub record SpellsAarq (bytes : List ℕ) (aarq : Aarq) : Type 0 where
  pub fields : List Field
  pub is_apdu : IsApdu 0x60 fields bytes
  pub context : HasInner 0xA1 0x06 fields (Some aarq.context)
  pub mechanism : HasMechanism fields aarq.mechanism
  pub password : HasInner 0xAC 0x80 fields aarq.password
  pub user : HasInner 0xBE 0x04 fields (Some aarq.user)

-- ---- AARE

-- whether a text is that of this user information: of a response or an error; any other text is
-- absent information
abbrev pub IsInfo : Info → List ℕ → Type 0
IsInfo Absent text = (info : (ℕ × ℕ) ⊎ ℕ) → info_part.Spells info text → ⊥
IsInfo (Response bits limit) text = info_part.Spells (inl (bits, limit)) text
IsInfo (InitiateError error) text = info_part.Spells (inr error) text

-- whether the fields have this user information: one such field, or none if it is absent
abbrev pub HasInfo : List Field → Info → Type 0
HasInfo fields info = (HasNone 0xBE fields × (info ≡ Absent))
    ⊎ ((text : List ℕ) × HasInner 0xBE 0x04 fields (Some text) × IsInfo info text)

-- whether bytes spell the AARE; if it accepts, it has an InitiateResponse
pub record SpellsAare (bytes : List ℕ) (aare : Aare) : Type 0 where
  pub fields : List Field
  pub is_apdu : IsApdu 0x61 fields bytes
  pub result_field : HasOne 0xA2 (result_part.Spells aare.result) fields
  pub diagnostic_field : HasOne 0xA3 (diagnostic_part.Spells aare.diagnostic) fields
  pub user : HasInfo fields aare.info
  pub responds : aare.result ≡ 0 → is_response aare.info ≡ true

-- ---- RLRQ

-- whether bytes are an RLRQ, with any fields
abbrev pub SpellsRelease : List ℕ → Type 0
SpellsRelease bytes = (fields : List Field) × IsApdu 0x62 fields bytes
