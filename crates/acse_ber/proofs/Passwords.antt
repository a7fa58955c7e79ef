-- Byte strings are compared by the union of the differences of their bytes.
use Rattle.std.proofs.Common.{arith, ◌≡◌, ◌+◌, ◌<◌, ◌≤◌, ℕ, List, length, take, slice_index_or, nat_eq, bytes_eq, bit_or, bit_xor, refl, sym, ◌∙◌}
use Rattle.std.specs.Int.Bits.{xor_self, xor_add_and, and_le_l, and_le_r}
use Rattle.std.proofs.lemmas.Nat.{le_or_l, le_or_r}
use Rattle.std.proofs.lemmas.Bool.Decides.{same_from_decides, Decides-eqb}
use Rattle.std.proofs.lemmas.List.{take_more_same, take_all}
use Rattle.std.proofs.lemmas.Slice.Eq.{bytes_eq-Decides}

-- bytes without a difference are equal
pub same_byte : (a b : ℕ) → bit_xor a b ≡ 0 → a ≡ b
same_byte a b none = omega (arith, none, xor_add_and a b, and_le_l a b, and_le_r a b)

-- if the bytes are equal up to an index and at it, they are equal up to the next
pub same_further : (given password : List ℕ) (i d : ℕ) → i < length given → i < length password
    → (d ≡ 0 → take i given ≡ take i password)
    → bit_or d (bit_xor (slice_index_or given i 0) (slice_index_or password i 0)) ≡ 0
    → take (i + 1) given ≡ take (i + 1) password
same_further given password i d below within so_far none =
    let x = slice_index_or given i 0 in
    let y = slice_index_or password i 0 in
    let before : d ≡ 0 = omega (arith, none, le_or_l d (bit_xor x y)) in
    let here : bit_xor x y ≡ 0 = omega (arith, none, le_or_r d (bit_xor x y)) in
    take_more_same given password i 0 below within (so_far before) (same_byte x y here)

-- equal bytes have no difference
pub none_further : (given password : List ℕ) (i d : ℕ) → (given ≡ password → d ≡ 0)
    → given ≡ password
    → bit_or d (bit_xor (slice_index_or given i 0) (slice_index_or password i 0)) ≡ 0
none_further given password i d none same =
    rw (none same, same, xor_self (slice_index_or password i 0)) refl

-- at the end, there is no difference exactly if the byte strings are equal
pub is_compared : (given password : List ℕ) (i d : ℕ) → length given ≡ length password
    → length given ≤ i
    → (d ≡ 0 → take i given ≡ take i password) → (given ≡ password → d ≡ 0) → nat_eq d 0
    ≡ bytes_eq given password
is_compared given password i d long ended so_far none =
    let whole : d ≡ 0 → given ≡ password = λ zero. sym (take_all i given ended) ∙ so_far zero
    ∙ take_all i password (omega (arith, long, ended)) in
    same_from_decides (nat_eq d 0) (bytes_eq given password)
    ((λ yes. whole ((Decides-eqb d 0).0 yes)), (λ same. (Decides-eqb d 0).1 (none same)))
    (bytes_eq-Decides given password)
