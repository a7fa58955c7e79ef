-- Bytes are cut at the first byte that a search finds, and the parts that this leaves.
use Rattle.std.proofs.Common.{◌≡◌, ℕ, ◌+◌, ◌-◌, ◌<◌, Bool, true, false, ◌==◌, List, [], ◌∷◌, length, take, drop, get_or, Some, None, refl, sym, ap, ◌∙◌, arith}
use Rattle.std.specs.List.{position_or_len}
use Rattle.std.proofs.lemmas.List.{take_all, length-drop}
use Rattle.std.proofs.lemmas.List.Elements.{All-from_get_or}
use Rattle.std.proofs.lemmas.List.Splits.{slice_split_none, slice_split_first, length-slice_split}
use Rattle.std.proofs.lemmas.List.Sums.{position_or_len_is}
use Rattle.memchr.specs.Find.{IsFirstByte}
use Rattle.text_lines.specs.Parts.{parts_at}

-- a test for this byte
abbrev pub is_byte : ℕ → ℕ → Bool
is_byte byte b = b == byte

-- what is not true is false
is_false : (b : Bool) → ¬ (b ≡ true) → b ≡ false
is_false true fails = absurd (fails refl)
is_false false fails = refl

-- what is after a place, as a range to the end
to_the_end : (bytes : List ℕ) (k : ℕ) → take (length bytes - k) (drop k bytes) ≡ drop k bytes
to_the_end bytes k = take_all (length bytes - k) (drop k bytes) (omega (arith, length-drop k bytes))

-- bytes in which the search finds nothing are one part
pub parts_whole : (byte : ℕ) (bytes : List ℕ) → IsFirstByte (is_byte byte) bytes None
    → parts_at byte bytes ≡ bytes ∷ []
parts_whole byte bytes none =
    slice_split_none (is_byte byte) bytes
    (All-from_get_or (λ (b : ℕ). is_byte byte b ≡ false) bytes 0
    (λ k lt. is_false (is_byte byte (get_or bytes k 0)) (none k (omega arith) lt)))

-- otherwise they are cut at the first one that it finds
pub parts_cut : (byte : ℕ) (bytes : List ℕ) (at : ℕ) → IsFirstByte (is_byte byte) bytes (Some at)
    → parts_at byte bytes ≡ take at bytes ∷ parts_at byte
    (take (length bytes - (at + 1)) (drop (at + 1) bytes))
parts_cut byte bytes at found =
    let here : position_or_len (is_byte byte) bytes ≡ at =
    position_or_len_is (is_byte byte) bytes at 0 (omega (arith, found.0.high))
    (λ k lt. is_false (is_byte byte (get_or bytes k 0)) (found.0.before k (omega arith) lt))
    (λ lt. found.1) in
    let cut = rw here at (slice_split_first (is_byte byte) bytes 0 (omega (arith, found.0.high))) in
    cut ∙ ap (λ (rest : List ℕ). take at bytes ∷ parts_at byte rest)
    (sym (to_the_end bytes (at + 1)))

-- there is at least one part
pub parts_some : (byte : ℕ) (bytes : List ℕ) → 0 < length (parts_at byte bytes)
parts_some byte bytes = omega (arith, length-slice_split (is_byte byte) bytes)
