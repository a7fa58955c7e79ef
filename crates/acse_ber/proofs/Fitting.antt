-- An APDU that bytes spell fits.
use Rattle.std.proofs.Common.{◌≡◌, ℕ, suc, ◌+◌, ◌≤◌, ◌==◌, cond, Option, Some, None, List}
use Rattle.std.proofs.Common.{[], ◌∷◌, ◌++◌, length, get_or, refl, sym, ap, subst, ◌∙◌, arith, inl}
use Rattle.std.proofs.Common.{inr}
use Rattle.std.proofs.lemmas.Bool.{cases_eq, ne_eqb, cases_Bool}
use Rattle.std.proofs.lemmas.List.{length-append}
use Rattle.wire_bytes.specs.ByteFormats.{IsByte}
use Rattle.wire_bytes.specs.Format.{IsJoined, AreItems}
use Rattle.wire_bytes.proofs.ByteLaws.{bytes_at, bytes_all}
use Rattle.wire_bytes.proofs.Lawful.{AreAll, parts_all}
use Rattle.cosem_axdr.specs.Spelling.{IsBytes, length_text}
use Rattle.acse_ber.specs.Fit.{IsFitAarq, IsFitInfo, IsFitAare}
use Rattle.acse_ber.specs.Parts.{IsLength, contents_part, tagged_part, Field, field_part}
use Rattle.acse_ber.specs.Reading.{contents_of}
use Rattle.acse_ber.specs.Spelling.{HasInner, HasMechanism, IsInfo, HasInfo, SpellsAarq, SpellsAare}
use Rattle.acse_ber.specs.Text.{tagged_text, context_text, mechanism_text, password_text, user_text}
use Rattle.acse_ber.specs.declared.aarq.Aarq.{Aarq}
use Rattle.acse_ber.specs.declared.aare.Aare.{Aare}
use Rattle.acse_ber.specs.declared.aare.Info.{Info}
use Rattle.acse_ber.specs.declared.aare.Info.TheVariants.{Absent, Response, InitiateError}
use Rattle.acse_ber.proofs.Lengths.{length_is_short, form_grows}
use Rattle.acse_ber.proofs.PartLaws.{info_lawful}
use Rattle.acse_ber.proofs.Texts.{tagged_long}

-- ---- tags

-- the minimum number of bytes of a tag, a length and these contents
abbrev least : List ℕ → ℕ
least contents = 1 + length (length_text (length contents)) + length contents

least_grows : (a b : List ℕ) → length a ≤ length b → least a ≤ least b
least_grows a b le = omega (arith, le, form_grows (length a) (length b) le)

-- contents after their length are bytes, and the text has at least the minimum length
contents_fit : (contents bytes : List ℕ) → AreAll IsByte bytes → contents_part.Spells contents bytes
    → AreAll IsByte contents × (least contents ≤ 1 + length bytes)
contents_fit contents bytes all j =
    let short = length_is_short j.first (length contents)
    (bytes_at j.first (parts_all IsByte all j).0) j.is_first in (
      subst (AreAll IsByte) j.are_others (parts_all IsByte all j).1,
      omega (
        arith,
        short.1,
        ap (λ (s : List ℕ). length s) j.parts,
        length-append j.first j.others,
        ap (λ (s : List ℕ). length s) j.are_others,
      ),
    )

-- and so are those after a tag
after_fits : {P : List ℕ → Type 0} (tag : ℕ) (contents bytes : List ℕ) → AreAll IsByte bytes
    → (j : IsJoined P (contents_part.Spells contents) bytes) → j.first ≡ tag ∷ []
    → AreAll IsByte contents × (least contents ≤ length bytes)
after_fits tag contents bytes all j one =
    let fit = contents_fit contents j.others (parts_all IsByte all j).1 j.are_others in (
      fit.0,
      omega (
        arith,
        fit.1,
        ap (λ (s : List ℕ). length s) j.parts,
        length-append j.first j.others,
        ap (λ (s : List ℕ). length s) one,
      ),
    )

-- ---- fields

-- the only contents of a tag are bytes
contents_are_bytes : (tag : ℕ) (fields : List Field) (body contents : List ℕ) → AreAll IsByte body
    → AreItems field_part.Spells fields body → contents_of tag fields ≡ contents ∷ []
    → AreAll IsByte contents
contents_are_bytes tag [] body contents bytes are one = absurd cc
contents_are_bytes tag (f ∷ fs) body contents bytes are one =
    elim (cases_Bool (f.tag == tag)) [
      | inl e ↦
          let here : f.contents ∷ contents_of tag fs ≡ contents ∷ [] = sym (rw e refl) ∙ one in
          let same : f.contents ≡ contents = ap (λ (l : List (List ℕ)). get_or l 0 []) here in
          subst (AreAll IsByte) same (after_fits f.tag f.contents are.first
          (parts_all IsByte bytes are).0 are.is_first are.is_first.is_first.1).0
      | inr e ↦
          let later : contents_of tag fs ≡ contents ∷ [] = sym (rw e refl) ∙ one in
          contents_are_bytes tag fs are.others contents
          (parts_all IsByte bytes are).1 are.are_others later
    ]

-- the minimum number of bytes of the fields of a tag
abbrev leasts : List (List ℕ) → ℕ
leasts [] = 0
leasts (contents ∷ more) = least contents + leasts more

leasts_more : (tag : ℕ) (f : Field) (fs : List Field) → leasts (contents_of tag (f ∷ fs))
    ≡ cond (f.tag == tag) (least f.contents) 0 + leasts (contents_of tag fs)
leasts_more tag f fs =
    elim (cases_Bool (f.tag == tag)) [
      | inl e ↦ rw e refl
      | inr e ↦ rw e (omega arith)
    ]

-- a field has at most one of the four tags
one_share : (t w : ℕ) → cond (t == 0xA1) w 0 + cond (t == 0x8B) w 0 + cond (t == 0xAC) w 0
    + cond (t == 0xBE) w 0 ≤ w
one_share t w =
    elim (cases_eq t 0xA1) [
      | inl e ↦ rw e (omega arith)
      | inr a ↦ rw (ne_eqb t 0xA1 a) (elim (cases_eq t 0x8B) [
        | inl e ↦ rw e (omega arith)
        | inr b ↦ rw (ne_eqb t 0x8B b) (elim (cases_eq t 0xAC) [
          | inl e ↦ rw e (omega arith)
          | inr c ↦ rw (ne_eqb t 0xAC c) (elim (cases_Bool (t == 0xBE))
              [ inl e ↦ rw e (omega arith) | inr e ↦ rw e (omega arith) ])
        ])
      ])
    ]

-- all the fields together are at least as long as those of the four tags
fields_long : (fields : List Field) (body : List ℕ) → AreAll IsByte body
    → AreItems field_part.Spells fields body
    → leasts (contents_of 0xA1 fields) + leasts (contents_of 0x8B fields)
    + leasts (contents_of 0xAC fields) + leasts (contents_of 0xBE fields) ≤ length body
fields_long [] body bytes are = omega arith
fields_long (f ∷ fs) body bytes are =
    let first = after_fits f.tag f.contents are.first (parts_all IsByte bytes are).0 are.is_first
    are.is_first.is_first.1 in
    let others = fields_long fs are.others (parts_all IsByte bytes are).1 are.are_others in
    omega (
      arith,
      first.1,
      others,
      one_share f.tag (least f.contents),
      leasts_more 0xA1 f fs,
      leasts_more 0x8B f fs,
      leasts_more 0xAC f fs,
      leasts_more 0xBE f fs,
      length-append are.first are.others,
      ap (λ (s : List ℕ). length s) are.parts,
    )

-- ---- AARQ

-- an inner tag is no longer than the field that it fills
inner_long : (tag inner outer : ℕ) (fields : List Field) (body text : List ℕ) → AreAll IsByte body
    → AreItems field_part.Spells fields body → HasInner tag inner fields (Some text)
    → length (tagged_text outer (tagged_text inner text)) ≤ leasts (contents_of tag fields)
inner_long tag inner outer fields body text bytes are has =
    let fits = after_fits inner text has.contents
    (contents_are_bytes tag fields body has.contents bytes are has.one) has.holds has.holds.is_first
    in
    let grows = least_grows (tagged_text inner text) has.contents
    (omega (arith, fits.1, tagged_long inner text)) in
    let all : leasts (contents_of tag fields) ≡ least has.contents + 0 = ap leasts has.one in
    omega (arith, grows, all, tagged_long outer (tagged_text inner text))

password_long : (fields : List Field) (body : List ℕ) (password : Option (List ℕ))
    → AreAll IsByte body → AreItems field_part.Spells fields body
    → HasInner 0xAC 0x80 fields password
    → length (password_text password) ≤ leasts (contents_of 0xAC fields)
password_long fields body None bytes are has = omega arith
password_long fields body (Some password) bytes are has =
    inner_long 0xAC 0x80 0xAC fields body password bytes are has

-- the ACSE requirements add four bytes
mechanism_long : (fields : List Field) (mechanism : List ℕ) → HasMechanism fields mechanism
    → length (mechanism_text mechanism) ≤ 4 + leasts (contents_of 0x8B fields)
mechanism_long fields [] has = omega arith
mechanism_long fields (byte ∷ bytes) (inl h) = let wrong : byte ∷ bytes ≡ [] = h.1 in absurd cc
mechanism_long fields (byte ∷ bytes) (inr h) =
    let all : leasts (contents_of 0x8B fields) ≡ least (byte ∷ bytes) + 0 =
    ap leasts h.one ∙ ap (λ (c : List ℕ). least c + 0) h.holds in
    omega (arith, all, tagged_long 0x8B (byte ∷ bytes))

-- the number of bytes that an APDU leaves for its fields
body_short : (tag : ℕ) (body bytes : List ℕ) → AreAll IsByte bytes
    → (tagged_part tag).Spells body bytes → length bytes ≤ 65535 → length body ≤ 65531
body_short tag body bytes all is short =
    let j = is.are_others in
    let text = (parts_all IsByte (parts_all IsByte all is).1 j).0 in
    short_by j.first (length body) (length bytes) text j.is_first
    (omega (
      arith,
      ap (λ (s : List ℕ). length s) is.parts,
      length-append is.first is.others,
      ap (λ (s : List ℕ). length s) is.is_first,
      ap (λ (s : List ℕ). length s) j.parts,
      length-append j.first j.others,
      ap (λ (s : List ℕ). length s) j.are_others,
    )) short
  where
    short_by : (text : List ℕ) (n all : ℕ) → AreAll IsByte text → IsLength text n → all
        ≡ suc (length text + n) → all ≤ 65535 → n ≤ 65531
    short_by text n all bytes (inl h) whole short = omega (arith, h.0)
    short_by text n all bytes (inr (inl e)) whole short =
        let below = (subst (AreAll IsByte) e bytes).1.0 in
        omega arith
    short_by text n all bytes (inr (inr (two, e, is))) whole short =
        omega (arith, whole, short, is.0, ap (λ (s : List ℕ). length s) e)

pub aarq_fits : (bytes : List ℕ) (aarq : Aarq) → IsBytes bytes → length bytes ≤ 65535
    → SpellsAarq bytes aarq → IsFitAarq aarq
aarq_fits bytes aarq are short s =
    let body = s.is_apdu.body in
    let is = s.is_apdu.is_tagged in
    let all_bytes = bytes_all bytes are in
    let tagged_part = after_fits 0x60 body bytes all_bytes is is.is_first in
    let fields = s.is_apdu.are_fields in
    let below = body_short 0x60 body bytes all_bytes is short in
    let context = inner_long 0xA1 0x06 0xA1 s.fields body aarq.context tagged_part.0 fields s.context in
    let mechanism = mechanism_long s.fields aarq.mechanism s.mechanism in
    let password = password_long s.fields body aarq.password tagged_part.0 fields s.password in
    let user = inner_long 0xBE 0x04 0xBE s.fields body aarq.user tagged_part.0 fields s.user in
    let all = fields_long s.fields body tagged_part.0 fields in
    let c = context_text aarq.context in
    let m = mechanism_text aarq.mechanism in
    let p = password_text aarq.password in
    let u = user_text aarq.user in
    omega (
      arith,
      below,
      context,
      mechanism,
      password,
      user,
      all,
      length-append c (m ++ (p ++ u)),
      length-append m (p ++ u),
      length-append p u,
    )

-- ---- AARE

info_fits : (info : Info) (text : List ℕ) → AreAll IsByte text → IsInfo info text → IsFitInfo info
info_fits Absent text all is = tt
info_fits (Response bits limit) text all is =
    let fit = info_lawful.fitting (inl (bits, limit)) text all is in
    (fit.1.1.0.1, fit.1.1.1.0)
info_fits (InitiateError error) text all is = tt

user_fits : (fields : List Field) (body : List ℕ) (info : Info) → AreAll IsByte body
    → AreItems field_part.Spells fields body → HasInfo fields info → IsFitInfo info
user_fits fields body info bytes are (inl h) = subst IsFitInfo (sym h.1) tt
user_fits fields body info bytes are (inr (text, has, is)) =
    info_fits info text (after_fits 0x04 text has.contents
    (contents_are_bytes 0xBE fields body has.contents bytes are has.one) has.holds
    has.holds.is_first).0 is

pub aare_fits : (bytes : List ℕ) (aare : Aare) → IsBytes bytes → SpellsAare bytes aare
    → IsFitAare aare
aare_fits bytes aare are s =
    let is = s.is_apdu.is_tagged in
    let tagged_part = after_fits 0x61 s.is_apdu.body bytes (bytes_all bytes are) is is.is_first in
    record {
      info = user_fits s.fields s.is_apdu.body aare.info tagged_part.0 s.is_apdu.are_fields
          s.user;
      responds = s.responds;
    }
