-- What bytes begin with, and that it does not change whatever bytes follow.
use Rattle.std.proofs.Common.{◌≡◌, ◌≢◌, ℕ, ◌+◌, ◌<◌, ◌≤◌, Bool, true, false, cond, List, ◌++◌, length, drop, refl, sym, ◌∙◌, ap, arith, length-append, length-drop}
use Rattle.std.proofs.lemmas.Bool.{ltb-false, ltb-true, le-ltb, lt-ltb, eqb-true, eqb-false, ne_eqb}
use Rattle.std.proofs.lemmas.List.{drop-append-le}
use Rattle.std.specs.Prelude.{nat_lt, ◌==◌}
use Rattle.byteorder.specs.Endian.{big_number}
use Rattle.byteorder.specs.Numbers.{big_from-append}
use Rattle.wrapper_frame.specs.declared.header.Head.{Head}
use Rattle.wrapper_frame.specs.declared.header.Head.TheVariants.{Part, BadVersion, TooLong, Whole}
use Rattle.wrapper_frame.specs.Header.{wrapper_version, header_size, max_payload, version_of, length_of, head_of}

-- what bytes begin with, by four tests: header incomplete, version right, payload too long, payload
-- incomplete
abbrev by_tests : (headless versioned long partial : Bool) → ℕ → Head
by_tests headless versioned long partial n = cond headless Part
    (cond versioned (cond long TooLong (cond partial Part (Whole n))) BadVersion)

-- what bytes begin with, by their number, the version and the length
abbrev pub told_by : (size version n : ℕ) → Head
told_by size version n = by_tests (nat_lt size header_size) (version == wrapper_version)
    (nat_lt max_payload n) (nat_lt size (header_size + n)) n

-- what bytes begin with depends only on their number and on two fields of the header
pub head_is : (bytes : List ℕ) → head_of bytes
    ≡ told_by (length bytes) (version_of bytes) (length_of bytes)
unfolding head_of
head_is bytes = refl

whole_tests : (b c d e : Bool) (k n : ℕ) → by_tests b c d e k ≡ Whole n → (b ≡ false) × (c ≡ true)
    × (d ≡ false) × (e ≡ false) × (k ≡ n)
whole_tests true c d e k n h = absurd cc
whole_tests false false d e k n h = absurd cc
whole_tests false true true e k n h = absurd cc
whole_tests false true false true k n h = absurd cc
whole_tests false true false false k n h = (refl, refl, refl, refl, cc)

version_tests : (b c d e : Bool) (k : ℕ) → by_tests b c d e k ≡ BadVersion → (b ≡ false)
    × (c ≡ false)
version_tests true c d e k h = absurd cc
version_tests false false d e k h = (refl, refl)
version_tests false true true e k h = absurd cc
version_tests false true false true k h = absurd cc
version_tests false true false false k h = absurd cc

long_tests : (b c d e : Bool) (k : ℕ) → by_tests b c d e k ≡ TooLong → (b ≡ false) × (c ≡ true)
    × (d ≡ true)
long_tests true c d e k h = absurd cc
long_tests false false d e k h = absurd cc
long_tests false true true e k h = (refl, refl, refl)
long_tests false true false true k h = absurd cc
long_tests false true false false k h = absurd cc

-- for part of a frame, the header or the payload is incomplete
part_tests : (b c d e : Bool) (k : ℕ) → by_tests b c d e k ≡ Part → b ≡ false → (d ≡ false)
    × (e ≡ true)
part_tests true c d e k h s = absurd cc
part_tests false false d e k h s = absurd cc
part_tests false true true e k h s = absurd cc
part_tests false true false true k h s = (refl, refl)
part_tests false true false false k h s = absurd cc

-- a field of the header is independent of the bytes after it
pub field_more : (at : ℕ) (bytes more : List ℕ) → at + 2 ≤ length bytes
    → big_number 2 (drop at (bytes ++ more)) ≡ big_number 2 (drop at bytes)
field_more at bytes more h =
    let there : at ≤ length bytes = omega arith in
    let two : 2 ≤ length (drop at bytes) = omega (arith, length-drop at bytes) in
    ap (big_number 2) (drop-append-le at bytes more there)
    ∙ big_from-append 2 (drop at bytes) more two

-- the parts of a whole frame
pub record WholeParts (bytes : List ℕ) (n : ℕ) : Type 0 where
  pub there : header_size + n ≤ length bytes
  pub small : n ≤ max_payload
  pub version : version_of bytes ≡ wrapper_version
  pub told : length_of bytes ≡ n

-- a whole frame at the front has these parts
pub whole_parts : (bytes : List ℕ) (n : ℕ) → head_of bytes ≡ Whole n → WholeParts bytes n
whole_parts bytes n h =
    let tests = whole_tests _ _ _ _ _ n (sym (head_is bytes) ∙ h) in
    let told : length_of bytes ≡ n = tests.4 in
    let there : header_size + length_of bytes ≤ length bytes = ltb-false _ _ tests.3 in
    let small : length_of bytes ≤ max_payload = ltb-false _ _ tests.2 in
    record {
      there = rw told at there;
      small = rw told at small;
      version = eqb-true _ _ tests.1;
      told = told;
    }

-- a front determined by three numbers, of which two are right
told_with : (size version n : ℕ) → version ≡ wrapper_version → n ≤ max_payload → header_size
    + n ≤ size → told_by size version n ≡ Whole n
told_with size version n v small there =
    rw (
      le-ltb size header_size (omega arith),
      v,
      le-ltb max_payload n small,
      le-ltb size (header_size + n) there,
    ) refl

-- bytes with these parts begin with a whole frame
pub parts_whole : (bytes : List ℕ) (n : ℕ) → WholeParts bytes n → head_of bytes ≡ Whole n
parts_whole bytes n w =
    head_is bytes ∙ ap (told_by (length bytes) (version_of bytes)) w.told
    ∙ told_with (length bytes) (version_of bytes) n w.version w.small w.there

-- a whole frame remains at the front
pub whole_more : (bytes more : List ℕ) (n : ℕ) → head_of bytes ≡ Whole n → head_of (bytes ++ more)
    ≡ Whole n
whole_more bytes more n h =
    let w = whole_parts bytes n h in
    parts_whole (bytes ++ more) n (record {
      there = omega (arith, w.there, length-append bytes more);
      small = w.small;
      version = big_from-append 2 bytes more (omega (arith, w.there)) ∙ w.version;
      told = field_more 6 bytes more (omega (arith, w.there)) ∙ w.told;
    })

-- a wrong version at the front
told_version : (size version n : ℕ) → header_size ≤ size → version ≢ wrapper_version
    → told_by size version n ≡ BadVersion
told_version size version n headed v = rw (
  le-ltb size header_size headed,
  ne_eqb version wrapper_version v,
) refl

-- a wrong version remains at the front
pub version_more : (bytes more : List ℕ) → head_of bytes ≡ BadVersion → head_of (bytes ++ more)
    ≡ BadVersion
version_more bytes more h =
    let tests = version_tests _ _ _ _ _ (sym (head_is bytes) ∙ h) in
    let headed : header_size ≤ length bytes = ltb-false _ _ tests.0 in
    let other : version_of bytes ≢ wrapper_version = eqb-false _ _ tests.1 in
    let same : version_of (bytes ++ more) ≡ version_of bytes =
    big_from-append 2 bytes more (omega arith) in
    head_is (bytes ++ more) ∙ told_version _ _ _ (omega (arith, length-append bytes more))
    (λ e. other (sym same ∙ e))

-- too long a payload at the front
told_long : (size version n : ℕ) → header_size ≤ size → version ≡ wrapper_version → max_payload < n
    → told_by size version n ≡ TooLong
told_long size version n headed v long = rw (
  le-ltb size header_size headed,
  v,
  lt-ltb max_payload n long,
) refl

-- too long a payload remains at the front
pub long_more : (bytes more : List ℕ) → head_of bytes ≡ TooLong → head_of (bytes ++ more) ≡ TooLong
long_more bytes more h =
    let tests = long_tests _ _ _ _ _ (sym (head_is bytes) ∙ h) in
    let headed : header_size ≤ length bytes = ltb-false _ _ tests.0 in
    let version : version_of bytes ≡ wrapper_version = eqb-true _ _ tests.1 in
    let long : max_payload < length_of bytes = ltb-true _ _ tests.2 in
    let same_version : version_of (bytes ++ more) ≡ version_of bytes =
    big_from-append 2 bytes more (omega arith) in
    let same_length : length_of (bytes ++ more) ≡ length_of bytes =
    field_more 6 bytes more (omega arith) in
    head_is (bytes ++ more) ∙ told_long _ _ _ (omega (arith, length-append bytes more))
    (same_version ∙ version) (omega arith)

-- part of a frame is shorter than the longest frame
few_by : (b c d e : Bool) (size n : ℕ) → b ≡ nat_lt size header_size → d ≡ nat_lt max_payload n → e
    ≡ nat_lt size (header_size + n) → by_tests b c d e n ≡ Part
    → size < header_size + max_payload
few_by true c d e size n b_is d_is e_is h =
    let headless : size < header_size = ltb-true _ _ (sym b_is) in omega arith
few_by false c d e size n b_is d_is e_is h =
    let tests = part_tests false c d e n h refl in
    let short : n ≤ max_payload = ltb-false _ _ (sym d_is ∙ tests.0) in
    let partial : size < header_size + n = ltb-true _ _ (sym e_is ∙ tests.1) in
    omega arith

pub part_few : (bytes : List ℕ) → head_of bytes ≡ Part → length bytes < header_size + max_payload
part_few bytes h = few_by _ _ _ _ (length bytes) (length_of bytes) refl refl refl
    (sym (head_is bytes) ∙ h)
