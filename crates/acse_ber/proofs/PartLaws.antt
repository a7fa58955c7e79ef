-- The formats of the parts of the ACSE APDUs are lawful.
use Rattle.std.proofs.Common.{◌≡◌, ◌⊎◌, ℕ, ◌^◌, ◌<◌, Bool, true, false, ◌==◌, nat_lt, Option}
use Rattle.std.proofs.Common.{Some, None, List, [], ◌∷◌, ◌++◌, length, Ok, refl, sym, ap, ap₂}
use Rattle.std.proofs.Common.{subst, ◌∙◌, arith, inl, inr}
use Rattle.std.specs.Prelude.{bytes_eq}
use Rattle.std.specs.Int.{w32, from_be_bytes, bytes_high_first}
use Rattle.std.proofs.lemmas.Bool.{ltb-true, lt-ltb, eqb-true}
use Rattle.std.proofs.lemmas.Slice.Eq.{bytes_eq-Decides}
use Rattle.wire_bytes.specs.ByteFormats.{IsByte, one_of}
use Rattle.wire_bytes.specs.Choice.{Parts, value_of}
use Rattle.wire_bytes.specs.Outcome.{guard}
use Rattle.wire_bytes.specs.Reading.{first_bytes}
use Rattle.wire_bytes.proofs.ByteLaws.{bytes_at, byte_lawful, number_16_lawful, one_of_lawful}
use Rattle.wire_bytes.proofs.ByteLaws.{byte_formats}
use Rattle.wire_bytes.proofs.Lawful.{Took, join, found_agrees, then_agrees, AreBytes, bytes_agrees}
use Rattle.wire_bytes.proofs.Lawful.{IsLawful, parts_all, guard_holds}
use Rattle.wire_bytes.proofs.OutcomeLemmas.{done, ok_is, bind_ok, guard_ok, chosen}
use Rattle.cosem_axdr.specs.Spelling.{length_text}
use Rattle.acse_ber.specs.Parts.{Part, literal, with_test, IsLength, length_read}
use Rattle.acse_ber.specs.Parts.{length_part, contents_part, byte_forms, byte_parts, bits_part}
use Rattle.acse_ber.specs.Parts.{tagged_part, field_part, proposal_part, info_forms, info_parts}
use Rattle.acse_ber.specs.Parts.{info_part, source_forms, source_parts, result_part}
use Rattle.acse_ber.specs.Parts.{diagnostic_part}
use Rattle.acse_ber.specs.declared.fault.AcseFault.{AcseFault}
use Rattle.acse_ber.specs.declared.fault.AcseFault.TheVariants.{Unreadable}
use Rattle.acse_ber.proofs.Lengths.{length_spells, length_is_short}

-- ---- bytes

pub literal_lawful : (expected : List ℕ) → IsLawful IsByte (literal expected)
literal_lawful expected = record {
  agrees = found_agrees (λ there. guard (bytes_eq there expected) Unreadable)
      (literal expected).Spells (bytes_agrees Unreadable (length expected))
      (λ there nothing text e s. sym s.1
      ∙ (bytes_eq-Decides there expected).0 (guard_holds (bytes_eq there expected) Unreadable e))
      (λ nothing text s. (
        expected,
        rw ((bytes_eq-Decides expected expected).1 refl) refl,
        (ap (λ (bytes : List ℕ). length bytes) s, sym s),
      ));
  written = λ nothing fit. refl;
  fitting = λ nothing text all s. tt;
}

pub tested_lawful : {A : Type 0} (test : A → Bool) (part : Part A) → IsLawful IsByte part
    → IsLawful IsByte (with_test test part)
tested_lawful {A = A} test part lawful = record {
  agrees = record {
    takes = takes;
    again = λ a text rest s. rw (lawful.agrees.again a text rest s.1, s.0) refl;
  };
  written = λ a fit. (fit.0, lawful.written a fit.1);
  fitting = λ a text all s. (s.0, lawful.fitting a text all s.1);
}
  where
    takes : (bytes : List ℕ) (x : A × List ℕ) → (with_test test part).read bytes ≡ Ok x
        → Took A (with_test test part).Spells bytes x
    takes bytes x e =
        let b = bind_ok (part.read bytes) _ x e in
        let g = guard_ok (test b.0.0) Unreadable (done AcseFault b.0) x b.2 in
        let t = lawful.agrees.takes bytes b.0 b.1 in
        subst (λ (z : A × List ℕ). Took A (with_test test part).Spells bytes z)
        (ok_is {F = AcseFault} b.0 x g.1)
        (record { text = t.text; parts = t.parts; spelled = (g.0, t.spelled) })

-- ---- lengths and tags

abbrev IsCount : ℕ → List ℕ → Type 0
IsCount n text = IsLength text n

-- a first byte, followed by what was read after it
led : {P : ℕ → List ℕ → Type 0} (first : ℕ) (rest : List ℕ) (x : ℕ × List ℕ)
    → Took ℕ P rest x → ((n : ℕ) (text : List ℕ) → P n text → IsLength (first ∷ text) n)
    → Took ℕ IsCount (first ∷ rest) x
led first rest x t spells = record {
  text = first ∷ t.text;
  parts = ap (λ (r : List ℕ). first ∷ r) t.parts;
  spelled = spells x.0 t.text t.spelled;
}

length_takes : (bytes : List ℕ) (x : ℕ × List ℕ) → length_read bytes ≡ Ok x
    → Took ℕ IsCount bytes x
unfolding length_read
length_takes [] x e = absurd cc
length_takes (first ∷ rest) x e =
    elim (chosen (nat_lt first 0x80) _ _ _ e) [
      | inl h ↦ subst (λ (z : ℕ × List ℕ). Took ℕ IsCount (first ∷ rest) z)
          (ok_is {F = AcseFault} (first, rest) x h.1) (record {
            text = first ∷ [];
            parts = refl;
            spelled = inl (ltb-true first 0x80 h.0, refl);
          })
      | inr h ↦ elim (chosen (first == 0x81) _ _ _ h.1) [
        | inl i ↦ led first rest x ((byte_lawful Unreadable).agrees.takes rest x i.1)
            (λ n text s. rw (eqb-true first 0x81 i.0, s) (inr (inl refl)))
        | inr i ↦ elim (chosen (first == 0x82) _ _ _ i.1) [
          | inl j ↦ led first rest x ((number_16_lawful Unreadable).agrees.takes rest x j.1)
              (λ n text s. rw (eqb-true first 0x82 j.0) (inr (inr (text, refl, s))))
          | inr j ↦ absurd cc
        ]
      ]
    ]

length_again : (n : ℕ) (text rest : List ℕ) → IsLength text n
    → length_read (text ++ rest) ≡ Ok (n, rest)
unfolding length_read
length_again n text rest (inl h) = rw (h.1, lt-ltb n 0x80 h.0) refl
length_again n text rest (inr (inl e)) = rw e refl
length_again n text rest (inr (inr h)) =
    rw (h.1, (number_16_lawful Unreadable).agrees.again n h.0 rest h.2) refl

pub length_lawful : IsLawful IsByte length_part
length_lawful = record {
  agrees = record { takes = length_takes; again = length_again };
  written = length_spells;
  fitting = λ n text all s. (length_is_short text n (bytes_at text all) s).0;
}

pub contents_lawful : IsLawful IsByte contents_part
contents_lawful = record {
  agrees = found_agrees (λ p. done AcseFault p.1) contents_part.Spells
      (then_agrees (first_bytes Unreadable) AreBytes length_lawful.agrees
      (bytes_agrees Unreadable))
      (λ p contents text e j.
      let same = sym j.are_others.1 ∙ ok_is p.1 contents e in record {
        first = j.first;
        others = j.others;
        parts = j.parts;
        is_first = subst (λ (n : ℕ). IsLength j.first n)
            (sym j.are_others.0 ∙ ap (λ (s : List ℕ). length s) same) j.is_first;
        are_others = same;
      })
      (λ contents text j. (
        (length contents, contents),
        refl,
        record {
          first = j.first;
          others = j.others;
          parts = j.parts;
          is_first = j.is_first;
          are_others = (ap (λ (s : List ℕ). length s) j.are_others, sym j.are_others);
        },
      ));
  written = λ contents fit. join (length_text (length contents)) contents
      (length_spells (length contents) fit) refl;
  fitting = λ contents text all j.
      length_lawful.fitting (length contents) j.first (parts_all IsByte all j).0 j.is_first;
}

-- ---- user information

pub three_back : (bits : ℕ) → bits < 2 ^ 24 → bits
    ≡ from_be_bytes w32 (0x00 ∷ bytes_high_first 3 bits)
three_back bits below = omega arith

abbrev bits_of : List ℕ → ℕ
bits_of three = from_be_bytes w32 (0x00 ∷ three)

pub bits_lawful : IsLawful IsByte bits_part
bits_lawful = record {
  agrees = found_agrees (λ three. done AcseFault (bits_of three)) bits_part.Spells
      (bytes_agrees Unreadable 3)
      (λ three n text e s. (s.0, sym (ok_is {F = AcseFault} _ n e) ∙ ap bits_of s.1))
      (λ n text s. (text, ap (done AcseFault) (sym s.1), (s.0, refl)));
  written = λ n fit. (refl, three_back n fit);
  fitting = λ n text all s. let at = bytes_at text all in
      subst (λ (m : ℕ). m < 2 ^ 24) (sym s.1) (omega (arith, at 0, at 1, at 2));
}

byte_made : (o : Option ℕ) → value_of byte_forms (byte_parts o) ≡ o
byte_made None = refl
byte_made (Some n) = refl

made_byte : (p : Parts byte_forms) → byte_parts (value_of byte_forms p) ≡ p
made_byte (inr (inr none)) = absurd none
made_byte p = refl

pub optional_lawful : IsLawful IsByte (one_of Unreadable byte_forms byte_parts)
optional_lawful = one_of_lawful Unreadable byte_forms byte_parts byte_made made_byte refl
    (search byte_formats)

source_made : (b : Bool) → value_of source_forms (source_parts b) ≡ b
source_made true = refl
source_made false = refl

made_source : (p : Parts source_forms) → source_parts (value_of source_forms p) ≡ p
made_source (inr (inr none)) = absurd none
made_source p = refl

pub source_lawful : IsLawful IsByte (one_of Unreadable source_forms source_parts)
source_lawful = one_of_lawful Unreadable source_forms source_parts source_made made_source refl
    (search byte_formats)

-- what `search` needs to prove that a format made of the parts is lawful
pub ruleset part_laws = (
  byte_formats,
  literal_lawful,
  tested_lawful,
  contents_lawful,
  bits_lawful,
  optional_lawful,
  source_lawful,
)

info_made : (i : (ℕ × ℕ) ⊎ ℕ) → value_of info_forms (info_parts i) ≡ i
info_made (inl response) = refl
info_made (inr error) = refl

made_info : (p : Parts info_forms) → info_parts (value_of info_forms p) ≡ p
made_info (inr (inr none)) = absurd none
made_info p = refl

pub info_lawful : IsLawful IsByte info_part
info_lawful = one_of_lawful Unreadable info_forms info_parts info_made made_info refl
    (search part_laws depth 20)

-- ---- tags, fields, user information

pub tagged_lawful : (tag : ℕ) → IsLawful IsByte (tagged_part tag)
tagged_lawful tag = search part_laws depth 20

pub field_lawful : IsLawful IsByte field_part
field_lawful = search part_laws depth 20

pub proposal_lawful : IsLawful IsByte proposal_part
proposal_lawful = search part_laws depth 20

pub result_lawful : IsLawful IsByte result_part
result_lawful = search part_laws depth 20

pub diagnostic_lawful : IsLawful IsByte diagnostic_part
diagnostic_lawful = search part_laws depth 20
