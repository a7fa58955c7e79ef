-- Words made a few values at a time.
use Rattle.std.proofs.Common.{◌≡◌, ℕ, Bool, true, false, ◌+◌, ◌*◌, ◌^◌, ◌%◌, ◌<◌, ◌≤◌, List, [], ◌∷◌, ◌++◌, length, get_or, take, drop, map, cond, refl, sym, ◌∙◌, ap, subst, arith, bit_or, min, ◌-◌}
use Rattle.std.specs.Simd.Lanes.{mask_l, chunk, top, zip2}
use Rattle.std.proofs.lemmas.Simd.{mask_l-lt, mask_l-mod, length-chunk, tops_compared, zip2_splat_left}
use Rattle.std.proofs.lemmas.List.{map-append, length-map, length-take-le, drop_more, drop_min, take_min, length-drop}
use Rattle.std.proofs.lemmas.Nat.{shl_whole, or_comm, or_shifted}
use Rattle.std.proofs.Math.Seq.{take-add}
use Rattle.std.proofs.Math.Nat.{pow-succ'}
use mir.Syntax.{Width}
use mir.Val.{bool_byte, bits, hbits}
use Rattle.std.specs.Prelude.{replicate}
use Rattle.lane_sampler.specs.Masks.{word_of, is_over, is_under}
use Rattle.lane_sampler.specs.declared.lanes.Word.{Word}

-- the words for the values before `at`
pub record SoFar (word : Word) (values : List ℕ) (threshold at : ℕ) : Type 0 where
  pub over : word.over ≡ word_of (is_over threshold) (take at values)
  pub under : word.under ≡ word_of (is_under threshold) (take at values)

-- the digits of a longer list are above those of its prefix
pub mask_l-append : (ms ns : List Bool) → mask_l (ms ++ ns) ≡ mask_l ms + mask_l ns * 2 ^ length ms
mask_l-append [] ns = omega arith
mask_l-append (m ∷ ms) ns = rw (mask_l-append ms ns, pow-succ' 2 (length ms)) (omega arith)

-- a word is below the power of two of its number of values
pub word_of-lt : (test : ℕ → Bool) (values : List ℕ) (n : ℕ) → length values ≡ n
    → word_of test values < 2 ^ n
word_of-lt test values n long =
    let P : ℕ → Type 0 = λ m. word_of test values < 2 ^ m in
    subst P (length-map values test ∙ long) (mask_l-lt (map test values))

-- the values from `at` to `at + n`, shifted to their place, complete the word
pub word_more : (test : ℕ → Bool) (values : List ℕ) (at n word mask : ℕ) →
    at + n ≤ length values → at + n ≤ 64 →
    word ≡ word_of test (take at values) → mask ≡ word_of test (chunk at n values) →
    bit_or word (mask * 2 ^ at % 2 ^ 64) ≡ word_of test (take (at + n) values)
word_more test values at n word mask within few word_is mask_is =
    let head = take at values in
    let more = chunk at n values in
    let head_long : length head ≡ at = length-take-le at values (omega arith) in
    let word_lt : word < 2 ^ at =
    let P : ℕ → Type 0 = λ w. w < 2 ^ at in
    subst P (sym word_is) (word_of-lt test head at head_long) in
    let mask_lt : mask < 2 ^ n =
    let P : ℕ → Type 0 = λ w. w < 2 ^ n in
    subst P (sym mask_is) (word_of-lt test more n (length-chunk at n values within)) in
    let shifted : mask * 2 ^ at % 2 ^ 64 ≡ mask * 2 ^ at =
    shl_whole mask n at 64 mask_lt (omega arith) in
    let joined : word_of test (take (at + n) values) ≡ word_of test head
    + word_of test more * 2 ^ length (map test head) =
    ap (word_of test) (take-add at n values) ∙ ap mask_l (map-append test head more)
    ∙ mask_l-append (map test head) (map test more) in
    let place : 2 ^ length (map test head) ≡ 2 ^ at =
    ap (λ n. 2 ^ n) (length-map head test ∙ head_long) in
    let sum : mask * 2 ^ at + word ≡ word_of test head
    + word_of test more * 2 ^ length (map test head) =
    rw (place, ← word_is, ← mask_is) (omega arith) in
    ap (bit_or word) shifted ∙ or_comm word (mask * 2 ^ at) ∙ or_shifted mask at word word_lt ∙ sum
    ∙ sym joined

-- the word of one value
pub word_of_one : (test : ℕ → Bool) (values : List ℕ) (at : ℕ) → at < length values →
    bool_byte (test (get_or values at 0)) ≡ word_of test (chunk at 1 values)
word_of_one test values at within =
    let one : chunk at 1 values ≡ get_or values at 0 ∷ [] =
    ap (take 1) (drop_more values at 0 within) in
    rw one (byte_is (test (get_or values at 0)))
  where
    byte_is : (b : Bool) → bool_byte b ≡ cond b 1 0 + 2 * 0
    byte_is b = elim b as (λ b. bool_byte b ≡ cond b 1 0 + 2 * 0) [ true ↦ refl | false ↦ refl ]

-- the values of one word; its bounds stop at the end of the values
pub part_is : (values : List ℕ) (start from upto : ℕ) →
    from ≡ min start (length values) → upto ≡ min (from + 64) (length values) →
    take (upto - from) (drop from values) ≡ take 64 (drop start values)
part_is values start from upto from_is upto_is =
    let rest = drop from values in
    let same : rest ≡ drop start values = ap (λ n. drop n values) from_is ∙ drop_min start values in
    let size : upto - from ≡ min 64 (length rest) = rw (length-drop from values) (omega arith) in
    ap (λ n. take n rest) size ∙ take_min 64 rest ∙ ap (take 64) same

-- `to_bitmask` of the comparison of a splat, on the left, with a vector
pub bitmask_splat_left : (w : Width) (t : ℕ → ℕ → Bool) (xs : List ℕ) (n y : ℕ) → length xs
    ≡ n → n ≤ 64 →
    mask_l (map (top (hbits w)) (zip2 (λ a b. cond (t a b) (2 ^ bits w - 1) 0) (replicate n y) xs))
    % 2 ^ 64
    ≡ mask_l (map (λ x. t y x) xs)
bitmask_splat_left w t xs n y long few =
    let tests : map (top (hbits w)) (zip2 (λ a b. cond (t a b) (2 ^ bits w - 1) 0)
    (replicate n y) xs) ≡ map (λ x. t y x) xs =
    tops_compared w t (replicate n y) xs ∙ zip2_splat_left t y n xs long in
    let short : length (map (λ x. t y x) xs) ≤ 64 = rw (length-map xs (λ x. t y x)) (omega arith) in
    ap (λ bs. mask_l bs % 2 ^ 64) tests ∙ mask_l-mod (map (λ x. t y x) xs) 64 short
