-- The formats of A-XDR are lawful.
use Rattle.std.proofs.Common.{◌≡◌, ℕ, ◌+◌, ◌-◌, ◌<◌, ◌≤◌, true, false, ◌&&◌, nat_lt, nat_le, List}
use Rattle.std.proofs.Common.{[], ◌∷◌, ◌++◌, length, take, drop, Result, Ok, Err, refl, sym, ap}
use Rattle.std.proofs.Common.{subst, ◌∙◌, arith, inl, inr}
use Rattle.std.proofs.lemmas.Bool.{and_parts, and_from, ltb-true, leb-true, lt-ltb, le-ltb, le-leb}
use Rattle.std.proofs.lemmas.List.{drop_at, take-append-drop}
use Rattle.wire_bytes.specs.ByteFormats.{IsByte, octets}
use Rattle.wire_bytes.specs.Format.{Format, ◌▷◌, items}
use Rattle.wire_bytes.specs.Reading.{read_as, first_bytes}
use Rattle.wire_bytes.proofs.ByteLaws.{bytes_at, fixed_lawful}
use Rattle.wire_bytes.proofs.Items.{items_lawful}
use Rattle.wire_bytes.proofs.Lawful.{Took, bytes_agrees, IsLawful, seen_lawful, then_lawful}
use Rattle.wire_bytes.proofs.OutcomeLemmas.{done, ok_is, bind_ok, guard_ok, chosen}
use Rattle.cosem_axdr.specs.Formats.{count_read, count, with_count, raw, list, front_or, axdr_data}
use Rattle.cosem_axdr.specs.Reading.{big_endian, first_data}
use Rattle.cosem_axdr.specs.Spelling.{IsLength}
use Rattle.cosem_axdr.specs.View.{tree_of}
use Rattle.cosem_axdr.specs.declared.value.Data.{Data}
use Rattle.cosem_axdr.proofs.DataFits.{length_is_short, spelled_data_fits}
use Rattle.cosem_axdr.proofs.Texts.{length_spells, text_spells}
use Rattle.cosem_axdr.proofs.Values.{data_found, data_again}

-- ---- lengths and counts

abbrev IsCount : ℕ → List ℕ → Type 0
IsCount n text = IsLength text n

count_takes : {F : Type 0} (fault : F) (bytes : List ℕ) (x : ℕ × List ℕ) → count_read fault bytes
    ≡ Ok x → Took ℕ IsCount bytes x
unfolding count_read
count_takes fault [] x e = absurd cc
count_takes {F = F} fault (first ∷ rest) x e =
    elim (chosen (nat_lt first 0x80) _ _ _ e) [
      | inl h ↦
          let below : first < 0x80 = ltb-true first 0x80 h.0 in
          let made : ℕ × List ℕ = (first, rest) in
          subst (λ (z : ℕ × List ℕ). Took ℕ IsCount (first ∷ rest) z) (ok_is {F = F} made x h.1)
          (record { text = first ∷ []; parts = refl; spelled = inl (below, refl, refl) })
      | inr h ↦
          let k = first - 0x80 in
          let g = guard_ok (nat_lt 0x80 first && nat_le first 0x84) fault
          (read_as big_endian (first_bytes fault k rest)) x h.1 in
          let both = and_parts _ _ g.0 in
          let low : 0x80 < first = ltb-true 0x80 first both.0 in
          let high : first ≤ 0x84 = leb-true first 0x84 both.1 in
          let b = bind_ok (first_bytes fault k rest) (λ y. done F (big_endian y.0, y.1)) x g.1 in
          let u = (bytes_agrees fault k).takes rest b.0 b.1 in
          let made : ℕ × List ℕ = (big_endian b.0.0, b.0.1) in
          let form : first ≡ 0x80 + length u.text = omega (arith, u.spelled.0) in
          let spelled : IsCount (big_endian b.0.0) (first ∷ u.text) =
          inr (omega arith, high, form, ap big_endian u.spelled.1) in
          subst (λ (z : ℕ × List ℕ). Took ℕ IsCount (first ∷ rest) z) (ok_is made x b.2)
          (record {
            text = first ∷ u.text;
            parts = ap (λ (r : List ℕ). first ∷ r) u.parts;
            spelled = spelled;
          })
    ]

count_again : {F : Type 0} (fault : F) (n : ℕ) (text rest : List ℕ) → IsCount n text
    → count_read fault (text ++ rest) ≡ Ok (n, rest)
unfolding count_read
count_again fault n [] rest none = absurd none
count_again fault n (first ∷ bytes) rest (inl h) =
    let short : nat_lt first 0x80 ≡ true = lt-ltb first 0x80 h.0 in
    rw (short, h.1, h.2) refl
count_again {F = F} fault n (first ∷ bytes) rest (inr h) =
    let not_short : nat_lt first 0x80 ≡ false = le-ltb first 0x80 (omega (arith, h.0)) in
    let form : (nat_lt 0x80 first && nat_le first 0x84) ≡ true =
    and_from _ _ (lt-ltb 0x80 first (omega (arith, h.0))) (le-leb first 0x84 h.1) in
    let those : first_bytes fault (first - 0x80) (bytes ++ rest) ≡ Ok (bytes, rest) =
    (bytes_agrees fault (first - 0x80)).again bytes bytes rest (omega (arith, h.2), refl) in
    rw (not_short, form, those) (ap (λ (m : ℕ). done F (m, rest)) (sym h.3))

pub count_lawful : {F : Type 0} (fault : F) → IsLawful IsByte (count fault)
count_lawful fault = record {
  agrees = record { takes = count_takes fault; again = count_again fault };
  written = length_spells;
  fitting = λ n text all s. (length_is_short text n (bytes_at text all) s).0;
}

-- ---- elements after their count

with_count_lawful : {F A : Type 0} (fault : F) (part : ℕ → Format ℕ F (List A))
    → ((n : ℕ) → IsLawful IsByte (part n))
    → ((n : ℕ) (xs : List A) (text : List ℕ) → (part n).Spells xs text → length xs ≡ n)
    → IsLawful IsByte (with_count fault part)
with_count_lawful {A = A} fault part lawful long =
    seen_lawful (λ p. p.1) (λ xs. (length xs, xs)) (count fault ▷ part) (λ xs. refl)
    (λ p text j. ap (λ (n : ℕ). (n, p.1)) (long p.0 p.1 j.others j.are_others))
    (then_lawful (count fault) part (count_lawful fault) lawful)

pub raw_lawful : {F : Type 0} (fault : F) → IsLawful IsByte (raw fault)
raw_lawful fault = with_count_lawful fault (octets fault) (fixed_lawful fault)
    (λ n xs text s. ap (λ (bytes : List ℕ). length bytes) s.1 ∙ s.0)

pub list_lawful : {F A : Type 0} (fault : F) (item : Format ℕ F A) → IsLawful IsByte item
    → IsLawful IsByte (list fault item)
list_lawful fault item lawful =
    with_count_lawful fault (items item) (items_lawful item lawful) (λ n xs text s. s.0)

-- ---- a Data

front_ok : {F G A : Type 0} (fault : F) (bytes : List ℕ) (read : Result (A × ℕ) G) (x : A × List ℕ)
    → front_or fault bytes read ≡ Ok x → (n : ℕ) × (read ≡ Ok (x.0, n)) × (drop n bytes ≡ x.1)
front_ok {F = F} {G = G} {A = A} fault bytes (Ok y) x e =
    let same = ok_is {F = F} (y.0, drop y.1 bytes) x e in (
      y.1,
      ap (λ (d : A). done G (d, y.1)) (ap (λ (z : A × List ℕ). z.0) same),
      ap (λ (z : A × List ℕ). z.1) same,
    )
front_ok fault bytes (Err other) x e = absurd cc

pub data_lawful : {F : Type 0} (fault : F) → IsLawful IsByte (axdr_data fault)
data_lawful {F = F} fault = record {
  agrees = record { takes = takes; again = again };
  written = λ value fit. text_spells (tree_of value) fit;
  fitting = λ value text all s. spelled_data_fits text (tree_of value) (bytes_at text all) s;
}
  where
    takes : (bytes : List ℕ) (x : Data × List ℕ) → front_or fault bytes (first_data bytes) ≡ Ok x
        → Took Data (axdr_data fault).Spells bytes x
    takes bytes x e =
        let f = front_ok fault bytes (first_data bytes) x e in
        let found = data_found bytes (x.0, f.0) f.1 in
        record {
          text = take f.0 bytes;
          parts = sym (take-append-drop f.0 bytes)
              ∙ ap (λ (r : List ℕ). take f.0 bytes ++ r) f.2;
          spelled = found.1;
        }

    again : (value : Data) (text rest : List ℕ) → (axdr_data fault).Spells value text
        → front_or fault (text ++ rest) (first_data (text ++ rest)) ≡ Ok (value, rest)
    again value text rest s =
        let back : drop (length text) (text ++ rest) ≡ rest =
        drop_at text rest (length text) refl in
        rw (data_again text rest value s, back) refl

-- what `search` needs to prove that a format made of these is lawful
pub ruleset axdr_formats = (count_lawful, raw_lawful, list_lawful, data_lawful)
