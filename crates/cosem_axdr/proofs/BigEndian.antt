-- The numbers of byteorder's definitions are those of std's and of `big_endian`.
use Rattle.std.proofs.Common.{◌≡◌, ℕ, ◌^◌, ◌%◌, ◌/◌, ◌≤◌, List, [], ◌∷◌, length, refl, arith}
use Rattle.std.specs.Int.{w16, w32, w64, from_be_bytes, bytes_high_first}
use lib.Bits.{bit_and, and_mask}
use Rattle.byteorder.specs.Endian.{big_number}
use Rattle.cosem_axdr.specs.Reading.{big_endian}

-- the number held in at most four bytes
pub all_bytes : (bytes : List ℕ) → length bytes ≤ 4
    → big_number (length bytes) bytes ≡ big_endian bytes
all_bytes [] le = refl
all_bytes (a ∷ []) le = omega arith
all_bytes (a ∷ b ∷ []) le = omega arith
all_bytes (a ∷ b ∷ c ∷ []) le = omega arith
all_bytes (a ∷ b ∷ c ∷ d ∷ []) le = omega arith
all_bytes (a ∷ b ∷ c ∷ d ∷ e ∷ rest) le = absurd (omega arith)

-- the number held in two, four and eight bytes
pub two_bytes : (bytes : List ℕ) → big_number 2 bytes ≡ from_be_bytes w16 bytes
two_bytes bytes = omega arith

pub four_bytes : (bytes : List ℕ) → big_number 4 bytes ≡ from_be_bytes w32 bytes
four_bytes bytes = omega arith

pub eight_bytes : (bytes : List ℕ) → big_number 8 bytes ≡ from_be_bytes w64 bytes
eight_bytes bytes = omega arith

-- each of the lowest four bytes of a number is that of its remainder modulo 2 ^ 32
byte_0 : (n : ℕ) → n % 2 ^ 32 % 256 ≡ n % 256
byte_0 n = omega arith

byte_1 : (n : ℕ) → n % 2 ^ 32 / 256 % 256 ≡ n / 256 % 256
byte_1 n = omega arith

byte_2 : (n : ℕ) → n % 2 ^ 32 / 65536 % 256 ≡ n / 65536 % 256
byte_2 n = omega arith

byte_3 : (n : ℕ) → n % 2 ^ 32 / 16777216 % 256 ≡ n / 16777216 % 256
byte_3 n = omega arith

-- masking a number to 32 bits leaves its lowest four bytes unchanged
pub lowest_four : (n : ℕ) → bytes_high_first 4 (bit_and n 0xFFFFFFFF) ≡ bytes_high_first 4 n
lowest_four n = rw (and_mask n 32, byte_3 n, byte_2 n, byte_1 n, byte_0 n) refl
