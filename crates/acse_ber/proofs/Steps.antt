-- Consecutive fields of an APDU, read by a loop.
use Rattle.std.proofs.Common.{◌≡◌, ℕ, zero, suc, ◌≤◌, ◌<◌, Bool, true, false, Option, Some, None}
use Rattle.std.proofs.Common.{List, [], ◌∷◌, ◌++◌, length, Result, Ok, Err, ◌==◌, refl, sym, ap}
use Rattle.std.proofs.Common.{◌∙◌, arith}
use Rattle.std.specs.Prelude.{is_ok, is_some, option_map}
use Rattle.std.proofs.lemmas.List.{length-append}
use Rattle.wire_bytes.specs.Outcome.{◌>>=◌}
use Rattle.acse_ber.specs.Parts.{Field, field_part}
use Rattle.acse_ber.specs.Reading.{fields_within, contents_of, at_most_one, plain}
use Rattle.acse_ber.specs.declared.fault.AcseFault.{AcseFault}
use Rattle.acse_ber.specs.declared.fault.AcseFault.TheVariants.{Unreadable}
use Rattle.acse_ber.proofs.PartLaws.{field_lawful}

-- the field found so far, as a list of at most one
abbrev pub seen : Option (List ℕ) → List (List ℕ)
seen None = []
seen (Some contents) = contents ∷ []

-- all fields of a tag: those found so far and those still to be read
abbrev pub still : ℕ → Option (List ℕ) → Result (List Field) AcseFault
    → Result (Option (List ℕ)) AcseFault
still tag found read =
    plain (read >>= λ fields. at_most_one (seen found ++ contents_of tag fields))

-- every field has at least one byte
pub field_shorter : (bytes : List ℕ) (x : Field × List ℕ) → field_part.read bytes ≡ Ok x
    → length x.1 < length bytes
field_shorter bytes x e =
    let len : (a b : List ℕ) → a ≡ b → length a ≡ length b =
    λ a b same. ap (λ (s : List ℕ). length s) same in
    let t = field_lawful.agrees.takes bytes x e in
    let j = t.spelled in
    omega (
      arith,
      len bytes (t.text ++ x.1) t.parts,
      length-append t.text x.1,
      len t.text (j.first ++ j.others) j.parts,
      length-append j.first j.others,
      len j.first (x.0.tag ∷ []) j.is_first.1,
    )

-- ---- one more field

-- a field followed by others
abbrev pub after : Field → Result (List Field) AcseFault → Result (List Field) AcseFault
after field read = read >>= λ others. Ok (field ∷ others)

-- a field is read while bytes remain
pub unrolled : (limit : ℕ) (bytes : List ℕ) (field : Field) (rest : List ℕ) → field_part.read bytes
    ≡ Ok (field, rest) → length bytes ≤ limit → (n : ℕ) × (length rest ≤ n)
    × (fields_within limit bytes ≡ after field (fields_within n rest))
unfolding fields_within
unrolled limit [] field rest e le =
    let less : length rest < 0 = field_shorter [] (field, rest) e in
    absurd (omega arith)
unrolled zero (byte ∷ bytes) field rest e le = absurd (omega arith)
unrolled (suc n) (byte ∷ bytes) field rest e le =
    let less : length rest < length (byte ∷ bytes) = field_shorter (byte ∷ bytes) (field, rest) e in
    (n, omega arith, rw e refl)

-- a field that is refused refuses all
pub refused : (limit : ℕ) (bytes : List ℕ) (fault : AcseFault) → (bytes ≡ [] → ⊥)
    → length bytes ≤ limit → field_part.read bytes ≡ Err fault
    → fields_within limit bytes ≡ Err fault
unfolding fields_within
refused limit [] fault some le e = absurd (some refl)
refused zero (byte ∷ bytes) fault some le e = absurd (omega arith)
refused (suc n) (byte ∷ bytes) fault some le e = rw e refl

skipped_in : (tag : ℕ) (found : Option (List ℕ)) (field : Field) (r : Result (List Field) AcseFault)
    → (field.tag == tag) ≡ false → still tag found (after field r) ≡ still tag found r
skipped_in tag found field (Ok others) e = rw e refl
skipped_in tag found field (Err fault) e = refl

found_in : (tag : ℕ) (field : Field) (r : Result (List Field) AcseFault) → (field.tag == tag) ≡ true
    → still tag None (after field r) ≡ still tag (Some field.contents) r
found_in tag field (Ok others) e = rw e refl
found_in tag field (Err fault) e = refl

twice_in : (tag : ℕ) (contents : List ℕ) (field : Field) (r : Result (List Field) AcseFault)
    → (field.tag == tag) ≡ true → still tag (Some contents) (after field r) ≡ Err Unreadable
twice_in tag contents field (Ok others) e = rw e refl
twice_in tag contents field (Err fault) e = refl

-- the fields still to be read, and the final result
abbrev pub Remaining : ℕ → Option (List ℕ) → List ℕ → Result (Option (List ℕ)) AcseFault → Type 0
Remaining tag found rest total = (limit : ℕ) × (length rest ≤ limit)
    × (still tag found (fields_within limit rest) ≡ total)

-- the next field has another tag
pub skips : (tag : ℕ) (found : Option (List ℕ)) (bytes : List ℕ) (field : Field) (rest : List ℕ)
    (total : Result (Option (List ℕ)) AcseFault)
    → Remaining tag found bytes total → field_part.read bytes ≡ Ok (field, rest)
    → (field.tag == tag) ≡ false → Remaining tag found rest total
skips tag found bytes field rest total left e other =
    let u = unrolled left.0 bytes field rest e left.1 in (
      u.0,
      u.1,
      sym (skipped_in tag found field (fields_within u.0 rest) other)
          ∙ sym (ap (still tag found) u.2) ∙ left.2,
    )

-- the next field is the first with the tag
pub finds : {X : Type 0} (view : X → List ℕ) (tag : ℕ) (found : Option X) (bytes : List ℕ)
    (field : Field) (rest : List ℕ) (total : Result (Option (List ℕ)) AcseFault)
    → Remaining tag (option_map view found) bytes total → field_part.read bytes ≡ Ok (field, rest)
    → (field.tag == tag) ≡ true → false ≡ is_some found
    → Remaining tag (Some field.contents) rest total
finds view tag None bytes field rest total left e same none =
    let u = unrolled left.0 bytes field rest e left.1 in (
      u.0,
      u.1,
      sym (found_in tag field (fields_within u.0 rest) same)
          ∙ sym (ap (still tag None) u.2) ∙ left.2,
    )
finds view tag (Some x) bytes field rest total left e same none = absurd cc

-- the next field is a second one with the tag
pub is_twice : {X : Type 0} (view : X → List ℕ) (tag : ℕ) (found : Option X) (bytes : List ℕ)
    (field : Field) (rest : List ℕ) (total : Result (Option (List ℕ)) AcseFault)
    → Remaining tag (option_map view found) bytes total → field_part.read bytes ≡ Ok (field, rest)
    → (field.tag == tag) ≡ true → true ≡ is_some found → total ≡ Err Unreadable
is_twice view tag None bytes field rest total left e same some = absurd cc
is_twice view tag (Some x) bytes field rest total left e same some =
    let u = unrolled left.0 bytes field rest e left.1 in
    sym left.2 ∙ ap (still tag (Some (view x))) u.2
    ∙ twice_in tag (view x) field (fields_within u.0 rest) same

-- the next bytes are not a field
pub is_refused : (tag : ℕ) (found : Option (List ℕ)) (bytes : List ℕ) (fault : AcseFault)
    (total : Result (Option (List ℕ)) AcseFault)
    → Remaining tag found bytes total → (bytes ≡ [] → ⊥) → field_part.read bytes ≡ Err fault
    → total ≡ Err Unreadable
is_refused tag found bytes fault total left some e =
    sym left.2 ∙ ap (still tag found) (refused left.0 bytes fault some left.1 e)

-- no bytes remain
pub is_found : (tag : ℕ) (found : Option (List ℕ)) (bytes : List ℕ)
    (total : Result (Option (List ℕ)) AcseFault) → Remaining tag found bytes total → bytes ≡ []
    → total ≡ Ok found
unfolding fields_within
is_found tag None bytes total left none = sym left.2 ∙ rw none refl
is_found tag (Some contents) bytes total left none = sym left.2 ∙ rw none refl

-- ---- whether the bytes are fields

abbrev pub Readable : List ℕ → Bool → Type 0
Readable rest total = (limit : ℕ) × (length rest ≤ limit)
    × (is_ok (fields_within limit rest) ≡ total)

after_ok : (field : Field) (r : Result (List Field) AcseFault) → is_ok (after field r) ≡ is_ok r
after_ok field (Ok others) = refl
after_ok field (Err fault) = refl

pub readable_on : (bytes : List ℕ) (field : Field) (rest : List ℕ) (total : Bool)
    → Readable bytes total → field_part.read bytes ≡ Ok (field, rest) → Readable rest total
readable_on bytes field rest total left e =
    let u = unrolled left.0 bytes field rest e left.1 in (
      u.0,
      u.1,
      sym (after_ok field (fields_within u.0 rest))
          ∙ sym (ap (λ (r : Result (List Field) AcseFault). is_ok r) u.2) ∙ left.2,
    )

pub readable_not : (bytes : List ℕ) (fault : AcseFault) (total : Bool) → Readable bytes total
    → (bytes ≡ [] → ⊥) → field_part.read bytes ≡ Err fault → total ≡ false
readable_not bytes fault total left some e = sym left.2
    ∙ ap (λ (r : Result (List Field) AcseFault). is_ok r) (refused left.0 bytes fault some left.1 e)

pub readable_end : (bytes : List ℕ) (total : Bool) → Readable bytes total → bytes ≡ []
    → total ≡ true
unfolding fields_within
readable_end bytes total left none = sym left.2 ∙ rw none refl
