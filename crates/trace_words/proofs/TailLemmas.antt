-- Bytes after the last line of a text that have no whole line before their first byte 0.
use Rattle.std.proofs.Common.{◌≡◌, ℕ, Bool, true, false, ◌==◌, ◌||◌, List, [], ◌∷◌, ◌++◌, map, refl}
use Rattle.std.specs.List.{onto_first}
use Rattle.std.proofs.lemmas.Bool.{or_right}
use Rattle.text_lines.specs.Lines.{all_but_last, lines_of, rows_of}
use Rattle.text_lines.specs.Parts.{parts_at}
use Rattle.text_lines.specs.Words.{words_of}
use Rattle.text_lines.proofs.WordsLemmas.{line_of-words_of}
use Rattle.trace_words.specs.WholeLines.{IsTail, before_zero, has_end, has_zero}

neither : (a b : Bool) → (a || b) ≡ false → (a ≡ false) × (b ≡ false)
neither true b e = absurd cc
neither false b e = (refl, e)

-- the first of these parts has a byte 0
abbrev FirstHasZero : List (List ℕ) → Type 0
FirstHasZero [] = ⊥
FirstHasZero (part ∷ parts) = has_zero part ≡ true

zero_onto : (parts : List (List ℕ)) → FirstHasZero (onto_first 0 parts)
zero_onto [] = refl
zero_onto (part ∷ parts) = refl

byte_onto : (x : ℕ) (parts : List (List ℕ)) → FirstHasZero parts
    → FirstHasZero (onto_first x parts)
byte_onto x [] zero = absurd zero
byte_onto x (part ∷ parts) zero = or_right (x == 0) (has_zero part) zero

-- the bytes up to the first byte 0 have no byte 0A
first_has_zero : (front rest : List ℕ) → has_end front ≡ false
    → FirstHasZero (parts_at 10 (front ++ 0 ∷ rest))
first_has_zero [] rest none = zero_onto (parts_at 10 rest)
first_has_zero (x ∷ front) rest none =
    let both = neither (x == 10) (has_end front) none in
    let others = first_has_zero front rest both.1 in
    rw both.0 (byte_onto x (parts_at 10 (front ++ 0 ∷ rest)) others)

zero_first : (parts : List (List ℕ)) → FirstHasZero parts
    → before_zero (map words_of (all_but_last parts)) ≡ []
zero_first [] zero = absurd zero
zero_first (part ∷ []) zero = refl
zero_first (part ∷ next ∷ parts) zero = rw (line_of-words_of part, zero) refl

pub zero_is_tail : (front rest : List ℕ) → has_end front ≡ false → IsTail (front ++ 0 ∷ rest)
unfolding rows_of lines_of
zero_is_tail front rest none =
    zero_first (parts_at 10 (front ++ 0 ∷ rest)) (first_has_zero front rest none)

-- one part
abbrev IsOne : List (List ℕ) → Type 0
IsOne [] = ⊥
IsOne (part ∷ []) = Unit {0}
IsOne (part ∷ next ∷ parts) = ⊥

one_onto : (x : ℕ) (parts : List (List ℕ)) → IsOne parts → IsOne (onto_first x parts)
one_onto x [] one = absurd one
one_onto x (part ∷ []) one = tt
one_onto x (part ∷ next ∷ parts) one = absurd one

one_part : (bytes : List ℕ) → has_end bytes ≡ false → IsOne (parts_at 10 bytes)
one_part [] none = tt
one_part (x ∷ bytes) none =
    let both = neither (x == 10) (has_end bytes) none in
    let others = one_part bytes both.1 in
    rw both.0 (one_onto x (parts_at 10 bytes) others)

one_line : (parts : List (List ℕ)) → IsOne parts → before_zero (map words_of (all_but_last parts))
    ≡ []
one_line [] one = absurd one
one_line (part ∷ []) one = refl
one_line (part ∷ next ∷ parts) one = absurd one

pub unended_is_tail : (bytes : List ℕ) → has_end bytes ≡ false → IsTail bytes
unfolding rows_of lines_of
unended_is_tail bytes none = one_line (parts_at 10 bytes) (one_part bytes none)

pub ruleset tails = (unended_is_tail, zero_is_tail)
