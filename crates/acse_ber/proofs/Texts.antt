-- The written text of an APDU that fits spells it.
use Rattle.std.proofs.Common.{◌≡◌, ℕ, ◌+◌, ◌/◌, ◌%◌, ◌^◌, ◌<◌, true, Option, Some, None, List, []}
use Rattle.std.proofs.Common.{◌∷◌, ◌++◌, length, refl, sym, ap, subst, append-nil, arith}
use Rattle.std.proofs.Common.{inl, inr}
use Rattle.std.specs.Int.{bytes_high_first}
use Rattle.std.proofs.lemmas.List.{length-append}
use Rattle.std.specs.List.{flat_map}
use Rattle.wire_bytes.specs.Format.{AreItems}
use Rattle.wire_bytes.proofs.Lawful.{join, AreAll}
use Rattle.cosem_axdr.specs.Spelling.{length_text}
use Rattle.acse_ber.specs.Fit.{IsFitAarq, IsFitInfo, IsFitAare}
use Rattle.acse_ber.specs.Parts.{Field, tagged_part, is_field_tag, field_part, info_part, result_part}
use Rattle.acse_ber.specs.Parts.{diagnostic_part}
use Rattle.acse_ber.specs.Reading.{contents_of, is_response}
use Rattle.acse_ber.specs.Spelling.{IsApdu, HasInner, HasMechanism, IsInfo, HasInfo, SpellsAarq}
use Rattle.acse_ber.specs.Spelling.{SpellsAare}
use Rattle.acse_ber.specs.Text.{tagged_text, context_text, mechanism_text, password_text, user_text}
use Rattle.acse_ber.specs.Text.{aarq_body, aarq_text, ln_context, aare_body, aare_text}
use Rattle.acse_ber.specs.declared.aarq.Aarq.{Aarq}
use Rattle.acse_ber.specs.declared.aare.Aare.{Aare}
use Rattle.acse_ber.specs.declared.aare.Info.{Info}
use Rattle.acse_ber.specs.declared.aare.Info.TheVariants.{Absent, Response, InitiateError}
use Rattle.acse_ber.proofs.PartLaws.{tagged_lawful, field_lawful, info_lawful, result_lawful}
use Rattle.acse_ber.proofs.PartLaws.{diagnostic_lawful}

-- ---- tags

pub tagged_spells : (tag : ℕ) (contents : List ℕ) → length contents < 2 ^ 16
    → (tagged_part tag).Spells contents (tagged_text tag contents)
tagged_spells tag contents below = (tagged_lawful tag).written contents (tt, below)

-- the length of the text of a tag, and of one within another
pub tagged_long : (tag : ℕ) (contents : List ℕ) → length (tagged_text tag contents) ≡ 1
    + length (length_text (length contents)) + length contents
tagged_long tag contents = omega (arith, length-append (length_text (length contents)) contents)

-- ---- fields

abbrev pub field : ℕ → List ℕ → Field
field tag contents = record { tag = tag; contents = contents }

abbrev fields_text : List Field → List ℕ
fields_text fields = flat_map field_part.text fields

abbrev HaveTags : List Field → Type 0
HaveTags fields = AreAll (λ f. is_field_tag f.tag ≡ true) fields

-- fields that are short enough together are spelled
fields_spell : (fields : List Field) → HaveTags fields → length (fields_text fields) < 2 ^ 16
    → AreItems field_part.Spells fields (fields_text fields)
fields_spell [] tags short = refl
fields_spell (f ∷ fs) tags short =
    let all = length-append (tagged_text f.tag f.contents) (fields_text fs) in
    join (field_part.text f) (fields_text fs)
    (field_lawful.written f ((tags.0, tt), omega (arith, short, all, tagged_long f.tag f.contents)))
    (fields_spell fs tags.1 (omega (arith, short, all)))

-- an APDU with such fields
apdu_spells : (tag : ℕ) (fields : List Field) (body : List ℕ)
    → (body ≡ fields_text fields) × HaveTags fields → length body < 2 ^ 16
    → IsApdu tag fields (tagged_text tag body)
apdu_spells tag fields body is short = record {
  body = body;
  is_tagged = tagged_spells tag body short;
  are_fields = subst (AreItems field_part.Spells fields) (sym is.0)
      (fields_spell fields is.1 (subst (λ (s : List ℕ). length s < 2 ^ 16) is.0 short));
}

-- user information is the last field
before_user : (front user : List ℕ) → front ++ user_text user ≡ front ++ (user_text user ++ [])
before_user front user = ap (λ (u : List ℕ). front ++ u) (sym (append-nil (user_text user)))

-- the contents of an outer tag and of an inner one are shorter than the text
outer_short : (tag : ℕ) (contents : List ℕ) (limit : ℕ) → length (tagged_text tag contents) < limit
    → length contents < limit
outer_short tag contents limit below = omega (arith, tagged_long tag contents)

-- ---- AARQ

abbrev user_fields : List ℕ → List Field
user_fields user = field 0xBE (tagged_text 0x04 user) ∷ []

abbrev password_fields : Option (List ℕ) → List Field → List Field
password_fields None others = others
password_fields (Some password) others = field 0xAC (tagged_text 0x80 password) ∷ others

abbrev mechanism_fields : List ℕ → List Field → List Field
mechanism_fields [] others = others
mechanism_fields (byte ∷ bytes) others = field 0x8A (0x07 ∷ 0x80 ∷ []) ∷ field 0x8B (byte ∷ bytes)
    ∷ others

abbrev aarq_fields : Aarq → List Field
aarq_fields aarq = field 0xA1 (tagged_text 0x06 aarq.context)
    ∷ mechanism_fields aarq.mechanism (password_fields aarq.password (user_fields aarq.user))

aarq_listed : (context mechanism : List ℕ) (password : Option (List ℕ)) (user : List ℕ)
    → let aarq : Aarq = record {
      context = context;
      mechanism = mechanism;
      password = password;
      user = user;
    } in (aarq_body aarq ≡ fields_text (aarq_fields aarq)) × HaveTags (aarq_fields aarq)
aarq_listed context [] None user =
    (before_user (context_text context) user, (refl, (refl, tt)))
aarq_listed context [] (Some password) user = (
  ap (λ (u : List ℕ). context_text context ++ u)
      (before_user (password_text (Some password)) user),
  (refl, (refl, (refl, tt))),
)
aarq_listed context (byte ∷ bytes) None user = (
  ap (λ (u : List ℕ). context_text context ++ u)
      (before_user (mechanism_text (byte ∷ bytes)) user),
  (refl, (refl, (refl, (refl, tt)))),
)
aarq_listed context (byte ∷ bytes) (Some password) user = (
  ap (λ (u : List ℕ). context_text context ++ (mechanism_text (byte ∷ bytes) ++ u))
      (before_user (password_text (Some password)) user),
  (refl, (refl, (refl, (refl, (refl, tt))))),
)

-- the fields with each tag
one_context : (context mechanism : List ℕ) (password : Option (List ℕ)) (user : List ℕ)
    → contents_of 0xA1 (aarq_fields (record {
      context = context;
      mechanism = mechanism;
      password = password;
      user = user;
    })) ≡ tagged_text 0x06 context ∷ []
one_context context [] None user = refl
one_context context [] (Some password) user = refl
one_context context (byte ∷ bytes) None user = refl
one_context context (byte ∷ bytes) (Some password) user = refl

one_user : (context mechanism : List ℕ) (password : Option (List ℕ)) (user : List ℕ)
    → contents_of 0xBE (aarq_fields (record {
      context = context;
      mechanism = mechanism;
      password = password;
      user = user;
    })) ≡ tagged_text 0x04 user ∷ []
one_user context [] None user = refl
one_user context [] (Some password) user = refl
one_user context (byte ∷ bytes) None user = refl
one_user context (byte ∷ bytes) (Some password) user = refl

has_mechanism : (context mechanism : List ℕ) (password : Option (List ℕ)) (user : List ℕ)
    → HasMechanism (aarq_fields (record {
      context = context;
      mechanism = mechanism;
      password = password;
      user = user;
    })) mechanism
has_mechanism context [] None user = inl (refl, refl)
has_mechanism context [] (Some password) user = inl (refl, refl)
has_mechanism context (byte ∷ bytes) None user =
    inr (record { contents = byte ∷ bytes; one = refl; holds = refl })
has_mechanism context (byte ∷ bytes) (Some password) user =
    inr (record { contents = byte ∷ bytes; one = refl; holds = refl })

has_password : (context mechanism : List ℕ) (password : Option (List ℕ)) (user : List ℕ)
    → length (password_text password) < 2 ^ 16
    → HasInner 0xAC 0x80 (aarq_fields (record {
      context = context;
      mechanism = mechanism;
      password = password;
      user = user;
    })) password
has_password context [] None user below = refl
has_password context (byte ∷ bytes) None user below = refl
has_password context [] (Some password) user below =
    record {
      contents = tagged_text 0x80 password;
      one = refl;
      holds = tagged_spells 0x80 password (outer_short 0x80 password (2 ^ 16)
          (outer_short 0xAC (tagged_text 0x80 password) (2 ^ 16) below));
    }
has_password context (byte ∷ bytes) (Some password) user below =
    record {
      contents = tagged_text 0x80 password;
      one = refl;
      holds = tagged_spells 0x80 password (outer_short 0x80 password (2 ^ 16)
          (outer_short 0xAC (tagged_text 0x80 password) (2 ^ 16) below));
    }

-- the parts are no longer than the whole
parts_short : (a b c d : List ℕ) (limit : ℕ) → length (a ++ (b ++ (c ++ d))) < limit
    → (length a < limit) × (length b < limit) × (length c < limit) × (length d < limit)
parts_short a b c d limit below =
    let e = length-append a (b ++ (c ++ d)) in
    let f = length-append b (c ++ d) in
    let g = length-append c d in
    (omega (arith, e, f, g), omega (arith, e, f, g), omega (arith, e, f, g), omega (arith, e, f, g))

pub aarq_spells : (aarq : Aarq) → IsFitAarq aarq → SpellsAarq (aarq_text aarq) aarq
unfolding aarq_text
aarq_spells aarq fit =
    let p = parts_short (context_text aarq.context) (mechanism_text aarq.mechanism)
    (password_text aarq.password) (user_text aarq.user) (2 ^ 16) fit in
    let context : length (tagged_text 0x06 aarq.context) < 2 ^ 16 =
    outer_short 0xA1 (tagged_text 0x06 aarq.context) (2 ^ 16) p.0 in
    let user : length (tagged_text 0x04 aarq.user) < 2 ^ 16 =
    outer_short 0xBE (tagged_text 0x04 aarq.user) (2 ^ 16) p.3 in
    record {
      fields = aarq_fields aarq;
      is_apdu = apdu_spells 0x60 (aarq_fields aarq) (aarq_body aarq)
          (aarq_listed aarq.context aarq.mechanism aarq.password aarq.user) fit;
      context = record {
        contents = tagged_text 0x06 aarq.context;
        one = one_context aarq.context aarq.mechanism aarq.password aarq.user;
        holds = tagged_spells 0x06 aarq.context (outer_short 0x06 aarq.context (2 ^ 16) context);
      };
      mechanism = has_mechanism aarq.context aarq.mechanism aarq.password aarq.user;
      password = has_password aarq.context aarq.mechanism aarq.password aarq.user p.2;
      user = record {
        contents = tagged_text 0x04 aarq.user;
        one = one_user aarq.context aarq.mechanism aarq.password aarq.user;
        holds = tagged_spells 0x04 aarq.user (outer_short 0x04 aarq.user (2 ^ 16) user);
      };
    }

-- ---- the conformance block

-- only the lowest 24 bits are written
pub low_24_bits : (bits : ℕ) → bytes_high_first 3 (bits % 2 ^ 24) ≡ bytes_high_first 3 bits
low_24_bits bits =
    let high : bits % 2 ^ 24 / 65536 % 256 ≡ bits / 65536 % 256 = omega arith in
    let middle : bits % 2 ^ 24 / 256 % 256 ≡ bits / 256 % 256 = omega arith in
    let low : bits % 2 ^ 24 % 256 ≡ bits % 256 = omega arith in
    rw (high, middle, low) refl

-- ---- AARE

abbrev aare_fields : ℕ → ℕ → List Field → List Field
aare_fields outcome diagnostic others =
    field 0xA1 (tagged_text 0x06 ln_context) ∷ field 0xA2 (result_part.text outcome)
    ∷ field 0xA3 (diagnostic_part.text diagnostic) ∷ others

-- an AARE from its numbers and its user information
info_spells : (outcome diagnostic : ℕ) (info : Info) (user : List Field)
    → let aare : Aare = record { result = outcome; diagnostic = diagnostic; info = info } in
    let fields = aare_fields outcome diagnostic user in
    length (aare_body aare) < 2 ^ 16 → (aare_body aare ≡ fields_text fields) × HaveTags fields
    → contents_of 0xA2 user ≡ [] → contents_of 0xA3 user ≡ []
    → HasInfo fields info → (outcome ≡ 0 → is_response info ≡ true)
    → SpellsAare (aare_text aare) aare
unfolding aare_text
info_spells outcome diagnostic info user short listed none nor has responds =
    let fields = aare_fields outcome diagnostic user in
    let aare : Aare = record { result = outcome; diagnostic = diagnostic; info = info } in
    record {
      fields = fields;
      is_apdu = apdu_spells 0x61 fields (aare_body aare) listed short;
      result_field = record {
        contents = result_part.text outcome;
        one = ap (λ (l : List (List ℕ)). result_part.text outcome ∷ l) none;
        holds = result_lawful.written outcome (tt, tt);
      };
      diagnostic_field = record {
        contents = diagnostic_part.text diagnostic;
        one = ap (λ (l : List (List ℕ)). diagnostic_part.text diagnostic ∷ l) nor;
        holds = diagnostic_lawful.written diagnostic (tt, (tt, tt));
      };
      user = has;
      responds = responds;
    }

pub aare_spells : (aare : Aare) → IsFitAare aare → SpellsAare (aare_text aare) aare
aare_spells aare fit = by_info aare.result aare.diagnostic aare.info fit.info fit.responds
  where
    has_user : (outcome diagnostic : ℕ) (info : Info) (text : List ℕ) → length text < 2 ^ 15
        → IsInfo info text → HasInfo (aare_fields outcome diagnostic (user_fields text)) info
    has_user outcome diagnostic info text short is = inr (
      text,
      record {
        contents = tagged_text 0x04 text;
        one = refl;
        holds = tagged_spells 0x04 text (omega (arith, short));
      },
      is,
    )

    by_info : (outcome diagnostic : ℕ) (info : Info) → IsFitInfo info
        → (outcome ≡ 0 → is_response info ≡ true)
        → let aare : Aare = record { result = outcome; diagnostic = diagnostic; info = info } in
        SpellsAare (aare_text aare) aare
    by_info outcome diagnostic Absent fit responds =
        info_spells outcome diagnostic Absent [] (omega arith) (refl, (refl, (refl, (refl, tt))))
        refl refl (inl (refl, refl)) responds
    by_info outcome diagnostic (Response bits limit) fit responds =
        let info = Response bits limit in
        let text = info_part.text (inl (bits, limit)) in
        let is = info_lawful.written (inl (bits, limit)) (tt, (tt, ((tt, fit.0), (fit.1, tt)))) in
        info_spells outcome diagnostic info (user_fields text) (omega arith)
        (refl, (refl, (refl, (refl, (refl, tt))))) refl refl
        (has_user outcome diagnostic info text (omega arith) is) responds
    by_info outcome diagnostic (InitiateError error) fit responds =
        let info = InitiateError error in
        let text = info_part.text (inr error) in
        let is = info_lawful.written (inr error) (tt, tt) in
        info_spells outcome diagnostic info (user_fields text) (omega arith)
        (refl, (refl, (refl, (refl, (refl, tt))))) refl refl
        (has_user outcome diagnostic info text (omega arith) is) responds
