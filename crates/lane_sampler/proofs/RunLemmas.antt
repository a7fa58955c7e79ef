-- Runs of ones: in one word, over the words of a mask, and what they mean for the values.
use Rattle.std.proofs.Common.{◌≡◌, ℕ, Bool, true, false, ◌&&◌, inl, inr, ◌+◌, ◌-◌, ◌/◌, ◌%◌, ◌^◌, ◌<◌, ◌≤◌, nat_lt, w64, List, length, get_or, take, drop, cond, sym, ◌∙◌, ap, subst, arith, zero, suc, min}
use Rattle.std.specs.Int.{bit_at, trailing_ones}
use Rattle.std.proofs.lemmas.Nat.{shr-shr, shr_below, shr_le}
use Rattle.std.specs.Int.Count.{trailing_of_zero}
use Rattle.std.proofs.lemmas.Bool.{cases_lt}
use Rattle.std.proofs.lemmas.Bool.Decides.{nat_tests}
use Rattle.std.proofs.lemmas.List.{get_or-take, get_or-drop, get_or_default, length-take, length-drop}
use Rattle.std.proofs.lemmas.List.Sums.{prefix_len_is}
use Rattle.std.specs.Prelude.{IsTrue, All}
use Rattle.std.specs.List.{prefix_len}
use Rattle.std.proofs.Math.Pow.{pow_mono}
use Rattle.std.proofs.lemmas.Nat.Bits.{bit_at-trailing_ones, bit_at_ones, bit_at_above}
use Rattle.lane_sampler.specs.Masks.{mask_bit, IsMask}
use Rattle.lane_sampler.specs.Runs.{AreOnes, EndsAt, IsRun}

-- n ones from bit s of a 64-bit word, followed by a zero or the word's end
pub record RunInWord (x s n : ℕ) : Type 0 where
  pub within : n ≤ 64 - s
  pub ones : (k : ℕ) → k < n → bit_at x (s + k) ≡ 1
  pub stops : n < 64 - s → bit_at x (s + n) ≡ 0

-- a bit of a shifted word
bit_at-shr : (x s k : ℕ) → bit_at (x / 2 ^ s) k ≡ bit_at x (s + k)
bit_at-shr x s k = ap (λ y. y % 2) (shr-shr x s k)

-- a shifted word that has a zero
run_to_zero : (x s : ℕ) → x < 2 ^ 64 → s < 64 → x / 2 ^ s + 1 < 2 ^ 64
    → RunInWord x s (trailing_ones w64 (x / 2 ^ s))
run_to_zero x s fits lt low =
    let y = x / 2 ^ s in
    let n = trailing_ones w64 y in
    let lowest : (n < 64) × (bit_at y n ≡ 0) × ((i : ℕ) → i < n → bit_at y i ≡ 1) =
    bit_at-trailing_ones w64 y low in
    let short : y < 2 ^ (64 - s) = shr_below x (64 - s) s (let P : ℕ
    → Type 0 = λ n. x < 2 ^ n in subst P (let e : 64 ≡ 64 - s + s = omega arith in e) fits) in
    let within : n ≤ 64 - s = elim (cases_lt (64 - s) n) [
      | inr le ↦ le
      | inl gt ↦
          let one : bit_at y (64 - s) ≡ 1 = lowest.2 (64 - s) gt in
          let zero : bit_at y (64 - s) ≡ 0 = bit_at_above y (64 - s) (64 - s) short (omega arith) in
          absurd (omega arith)
    ] in
    record {
      within = within;
      ones = λ k k_lt. sym (bit_at-shr x s k) ∙ lowest.2 k k_lt;
      stops = λ _. sym (bit_at-shr x s n) ∙ lowest.1;
    }

-- a word of ones
run_of_all : (x s : ℕ) → x < 2 ^ 64 → s < 64 → 2 ^ 64 ≤ x / 2 ^ s + 1
    → RunInWord x s (trailing_ones w64 (x / 2 ^ s))
run_of_all x zero fits lt high =
    let all : x / 2 ^ 0 ≡ 2 ^ 64 - 1 = omega (arith, shr_le x 0) in
    let count : trailing_ones w64 (x / 2 ^ 0) ≡ 64 =
    ap (trailing_ones w64) all ∙ trailing_of_zero 64 in
    record {
      within = omega (arith, count);
      ones = λ k k_lt. sym (bit_at-shr x 0 k) ∙ ap (λ y. bit_at y k) all
          ∙ bit_at_ones 64 k (omega (arith, count));
      stops = λ n_lt. absurd (omega (arith, count));
    }
run_of_all x (suc s) fits lt high =
    let short : x / 2 ^ suc s < 2 ^ (64 - suc s) = shr_below x (64 - suc s) (suc s) (let P : ℕ
    → Type 0 = λ n. x < 2 ^ n in subst P (let e : 64 ≡ 64 - suc s
    + suc s = omega arith in e) fits) in
    let small : 2 ^ (64 - suc s) ≤ 2 ^ 63 = pow_mono {i = 64 - suc s} {j = 63} (omega arith) in
    absurd (omega arith)

-- `trailing_ones` of a shifted word
pub run_in_word : (x s : ℕ) → x < 2 ^ 64 → s < 64 → RunInWord x s (trailing_ones w64 (x / 2 ^ s))
run_in_word x s fits lt =
    elim (cases_lt (x / 2 ^ s + 1) (2 ^ 64)) [
      | inl low ↦ run_to_zero x s fits lt low
      | inr high ↦
          run_of_all x s fits lt high
    ]

-- a bit of the same word
pub same_word : (words : List ℕ) (at k : ℕ) → at % 64 + k < 64 →
    mask_bit words (at + k) ≡ bit_at (get_or words (at / 64) 0) (at % 64 + k)
same_word words at k lt =
    let word : (at + k) / 64 ≡ at / 64 = omega arith in
    let place : (at + k) % 64 ≡ at % 64 + k = omega arith in
    ap (λ w. bit_at (get_or words w 0) ((at + k) % 64)) word
    ∙ ap (λ j. bit_at (get_or words (at / 64) 0) j) place

-- ones after ones
pub ones_more : (words : List ℕ) (at end n : ℕ) → at ≤ end → AreOnes words at (end - at)
    → AreOnes words end n →
    AreOnes words at (end + n - at)
ones_more words at end n from before after k lt = elim (cases_lt k (end - at)) [
  | inr past ↦
      let place : end + (k - (end - at)) ≡ at + k = omega arith in
      ap (mask_bit words) (sym place) ∙ after (k - (end - at)) (omega arith)
  | inl inside ↦ before k inside
]

-- the run that ends there, limited to len
pub run_of_end : (words : List ℕ) (len at end : ℕ) → EndsAt words len at end
    → IsRun words len at (min end len - at)
run_of_end words len at end e = record {
  within = omega arith;
  ones = λ k lt. e.ones k (omega arith);
  stops = λ lt.
      let place : at + (min end len - at) ≡ end = omega (arith, e.from) in
      ap (mask_bit words) place ∙ e.stops (omega arith);
}

-- a bit of a mask, and the answer that it stores
answer_is : (i n : ℕ) (b : Bool) (bit : ℕ) → bit ≡ cond (nat_lt i n && b) 1 0 → bit ≡ 1 → (i < n)
    × (b ≡ true)
answer_is i n b bit is one = (grind (arith, nat_tests), grind (arith, nat_tests))

-- a bit is one only if its value passes the test
pub passes : (test : ℕ → Bool) (values words : List ℕ) → IsMask test values words →
    (i : ℕ) → i < 256 → mask_bit words i ≡ 1 → (i < length values)
    × (test (get_or values i 0) ≡ true)
passes test values words mask i lt one = answer_is i (length values) (test (get_or values i 0)) _
    (mask.bits i lt) one

no_answer : (i n : ℕ) (b : Bool) (bit : ℕ) → bit ≡ cond (nat_lt i n && b) 1 0 → bit ≡ 0 → i < n → b
    ≡ false
no_answer i n b bit is none lt = grind (arith, nat_tests)

-- a bit is zero only if its value does not pass the test
pub fails : (test : ℕ → Bool) (values words : List ℕ) → IsMask test values words →
    (i : ℕ) → i < 256 → mask_bit words i ≡ 0 → i < length values → test (get_or values i 0) ≡ false
fails test values words mask i lt none within =
    no_answer i (length values) (test (get_or values i 0)) _ (mask.bits i lt) none within

-- a run in the mask of a test is a run of values that pass it
pub run_passes : (words : List ℕ) (len at n : ℕ) → len ≤ 256 → IsRun words len at n →
    (test : ℕ → Bool) (values : List ℕ) → IsMask test values words → length values ≡ len →
    n ≡ prefix_len test (drop at values)
run_passes words len at n small run test values mask long =
    let rest_long : length (drop at values) ≡ length values - at = length-drop at values in
    sym (prefix_len_is test (drop at values) n 0 (omega (arith, run.within))
    (λ k lt. ap test (get_or-drop at values k 0)
    ∙ (passes test values words mask (at + k) (omega (arith, run.within)) (run.ones k lt)).1)
    (λ lt. ap test (get_or-drop at values n 0)
    ∙ fails test values words mask (at + n) (omega arith) (run.stops (omega arith))
    (omega arith)))

-- each value of a run in the mask of a test passes it
pub all_pass : (words : List ℕ) (len at n : ℕ) → len ≤ 256 → IsRun words len at n →
    (test : ℕ → Bool) (values : List ℕ) → IsMask test values words
    → All (λ v. IsTrue (test v)) (take n (drop at values))
all_pass words len at n small run test values mask k d within =
    let lt : k < n = omega (arith, length-take n (drop at values)) in
    let passed : (at + k < length values) × (test (get_or values (at + k) 0) ≡ true) =
    passes test values words mask (at + k) (omega (arith, run.within)) (run.ones k lt) in
    ap test (get_or-take n (drop at values) k d lt ∙ get_or-drop at values k d
    ∙ get_or_default values (at + k) d 0 passed.0)
    ∙ passed.1
