-- Bytes are cut at the first byte that a search finds.
use Rattle.std.proofs.Common.{◌≡◌, ℕ, ◌+◌, ◌-◌, Bool, true, false, ◌==◌, List, [], length, take}
use Rattle.std.proofs.Common.{drop, get_or, Some, None, refl, sym, ap, ◌∙◌, arith}
use Rattle.std.specs.List.{position_or_len, before_first, after_first}
use Rattle.std.proofs.lemmas.List.{take_all, drop_all, length-drop}
use Rattle.std.proofs.lemmas.List.Sums.{position_or_len_is}
use Rattle.memchr.specs.Find.{IsFirstByte}

-- a test for this byte
abbrev pub is_byte : ℕ → ℕ → Bool
is_byte byte b = b == byte

-- what is not true is false
is_false : (b : Bool) → ¬ (b ≡ true) → b ≡ false
is_false true fails = absurd (fails refl)
is_false false fails = refl

-- nothing is found: the first such byte would be at the end
at_the_end : (byte : ℕ) (bytes : List ℕ) → IsFirstByte (is_byte byte) bytes None
    → position_or_len (is_byte byte) bytes ≡ length bytes
at_the_end byte bytes none =
    position_or_len_is (is_byte byte) bytes (length bytes) 0 (omega arith)
    (λ k lt. is_false (is_byte byte (get_or bytes k 0)) (none k (omega arith) lt))
    (λ lt. absurd (omega (arith, lt)))

-- the first such byte is found
at_the_place : (byte : ℕ) (bytes : List ℕ) (at : ℕ) → IsFirstByte (is_byte byte) bytes (Some at)
    → position_or_len (is_byte byte) bytes ≡ at
at_the_place byte bytes at found =
    position_or_len_is (is_byte byte) bytes at 0 (omega (arith, found.0.high))
    (λ k lt. is_false (is_byte byte (get_or bytes k 0)) (found.0.before k (omega arith) lt))
    (λ lt. found.1)

pub whole_before : (byte : ℕ) (bytes : List ℕ) → IsFirstByte (is_byte byte) bytes None
    → bytes ≡ before_first (λ b. b == byte) bytes
whole_before byte bytes none =
    sym (ap (λ (k : ℕ). take k bytes) (at_the_end byte bytes none)
    ∙ take_all (length bytes) bytes (omega arith))

pub none_after : (byte : ℕ) (bytes : List ℕ) → IsFirstByte (is_byte byte) bytes None
    → [] ≡ after_first (λ b. b == byte) bytes
none_after byte bytes none =
    sym (ap (λ (k : ℕ). drop (k + 1) bytes) (at_the_end byte bytes none)
    ∙ drop_all (length bytes + 1) bytes (omega arith))

pub part_before : (byte : ℕ) (bytes : List ℕ) (at : ℕ)
    → IsFirstByte (is_byte byte) bytes (Some at)
    → take at bytes ≡ before_first (λ b. b == byte) bytes
part_before byte bytes at found =
    sym (ap (λ (k : ℕ). take k bytes) (at_the_place byte bytes at found))

pub part_after : (byte : ℕ) (bytes : List ℕ) (at : ℕ)
    → IsFirstByte (is_byte byte) bytes (Some at)
    → take (length bytes - (at + 1)) (drop (at + 1) bytes)
    ≡ after_first (λ b. b == byte) bytes
part_after byte bytes at found =
    take_all (length bytes - (at + 1)) (drop (at + 1) bytes)
    (omega (arith, length-drop (at + 1) bytes))
    ∙ sym (ap (λ (k : ℕ). drop (k + 1) bytes) (at_the_place byte bytes at found))
