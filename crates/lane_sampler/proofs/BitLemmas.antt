-- The words of a mask, bit by bit.
use Rattle.std.proofs.Common.{◌≡◌, ℕ, Bool, false, ◌&&◌, ◌+◌, ◌*◌, ◌/◌, ◌%◌, ◌<◌, nat_lt, List, [], ◌∷◌, length, get_or, take, drop, map, cond, ◌^◌, refl, sym, ◌∙◌, subst, ap, arith, zero, suc}
use Rattle.std.proofs.lemmas.Bool.Decides.{nat_tests}
use Rattle.std.proofs.lemmas.Simd.{bit_mask_l}
use Rattle.std.proofs.lemmas.List.{take-map, drop-map, get_or-take, get_or-drop}
use Rattle.lane_sampler.specs.declared.lanes.Masks.{Masks}
use Rattle.lane_sampler.specs.Masks.{IsMask, AreMasks, masks_of, words_of, word_at, is_over, is_under}

-- the word at one of the four places
words_at : (test : ℕ → Bool) (values : List ℕ) (k : ℕ) → k < 4 → get_or (words_of test values) k 0
    ≡ word_at test values k
unfolding words_of
words_at test values zero lt = refl
words_at test values (suc zero) lt = refl
words_at test values (suc (suc zero)) lt = refl
words_at test values (suc (suc (suc zero))) lt = refl
words_at test values (suc (suc (suc (suc k)))) lt = absurd (omega arith)

-- a comparison of two numbers is that of their successors
lt_suc : (m n : ℕ) → nat_lt m n ≡ nat_lt (suc m) (suc n)
lt_suc m n = grind (arith, nat_tests)

-- an answer is true exactly if there is a value and it passes
answer_at : (test : ℕ → Bool) (values : List ℕ) (i : ℕ) →
    get_or (map test values) i false ≡ (nat_lt i (length values) && test (get_or values i 0))
answer_at test [] i = grind (arith, nat_tests)
answer_at test (v ∷ values) zero = grind (arith, nat_tests)
answer_at test (v ∷ values) (suc i) =
    let same : nat_lt i (length values) ≡ nat_lt (suc i) (suc (length values)) =
    lt_suc i (length values) in
    answer_at test values i ∙ ap (λ b. b && test (get_or values i 0)) same

-- an answer for a value of one word
answer_in_part : (test : ℕ → Bool) (values : List ℕ) (start j : ℕ) → j < 64 →
    get_or (map test (take 64 (drop start values))) j false
    ≡ get_or (map test values) (start + j) false
answer_in_part test values start j lt =
    ap (λ bs. get_or bs j false) (sym (take-map test 64 (drop start values)))
    ∙ get_or-take 64 (map test (drop start values)) j false lt
    ∙ ap (λ bs. get_or bs j false) (sym (drop-map test start values))
    ∙ get_or-drop start (map test values) j false

-- the bits of a test's words are its answers
pub words_of-bits : (test : ℕ → Bool) (values : List ℕ) → IsMask test values (words_of test values)
words_of-bits test values = record {
  bits = λ i lt.
      let place : 64 * (i / 64) + i % 64 ≡ i = omega arith in
      let word = ap (λ w. w / 2 ^ (i % 64) % 2) (words_at test values (i / 64) (omega arith)) in
      let answer = answer_in_part test values (64 * (i / 64)) (i % 64) (omega arith) in
      word ∙ bit_mask_l (map test (take 64 (drop (64 * (i / 64)) values))) (i % 64)
      ∙ ap (λ b. cond b 1 0) (answer ∙ ap (λ n. get_or (map test values) n false) place
      ∙ answer_at test values i);
}

-- the masks of values are right bit by bit
pub masks_of-bits : (values : List ℕ) (threshold : ℕ)
    → AreMasks values threshold (masks_of values threshold)
masks_of-bits values threshold = record {
  over = words_of-bits (is_over threshold) values;
  under = words_of-bits (is_under threshold) values;
  len = refl;
}

-- masks that are equal to those of the values are right bit by bit
pub bits_from_words : (values : List ℕ) (threshold : ℕ) (masks : Masks) →
    masks ≡ masks_of values threshold → AreMasks values threshold masks
bits_from_words values threshold masks e = subst (AreMasks values threshold) (sym e)
    (masks_of-bits values threshold)
