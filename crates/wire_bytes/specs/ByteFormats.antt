-- The formats of bytes that others are made from.
--     byte, octets, number      one byte, a fixed number of bytes, a number with its highest byte
--                               first
--     flag, optional            whether something holds; a part that may be absent
--     one_of, read_one_of       a choice by the next byte
use Rattle.std.specs.Prelude.{◌≡◌, ℕ, ◌*◌, ◌^◌, ◌<◌, Bool, true, false, not, ◌==◌, if◌then◌else◌}
use Rattle.std.specs.Prelude.{Option, Some, None, List, [], ◌∷◌, length, Result, Ok}
use Rattle.std.specs.Int.{Width, byte_len, from_be_bytes, to_be_bytes}
use Rattle.wire_bytes.specs.Reading.{read_as, first_byte, first_bytes}
use Rattle.wire_bytes.specs.Format.{Format, IsJoined, narrow}
use Rattle.wire_bytes.specs.Outcome.{◌>>=◌}
use Rattle.wire_bytes.specs.Choice.{Choice, Parts, next_read, choice_by}

-- whether a number is a byte
abbrev pub IsByte : ℕ → Type 0
IsByte n = n < 256

-- whether two bytes are the same
abbrev pub same_byte : ℕ → ℕ → Bool
same_byte a b = a == b

-- one byte
abbrev pub byte : {F : Type 0} → F → Format ℕ F ℕ
byte fault = record {
  read = first_byte fault;
  text = λ n. n ∷ [];
  Fits = λ n. Unit {0};
  Spells = λ n bytes. bytes ≡ n ∷ [];
}

-- a fixed number of bytes, unchanged
abbrev pub octets : {F : Type 0} → F → ℕ → Format ℕ F (List ℕ)
octets fault n = record {
  read = first_bytes fault n;
  text = λ bytes. bytes;
  Fits = λ bytes. length bytes ≡ n;
  Spells = λ bytes spelling. (length spelling ≡ n) × (bytes ≡ spelling);
}

-- a number of fixed width, its highest byte first
abbrev pub number : {F : Type 0} → F → Width → Format ℕ F ℕ
number fault w = record {
  read = λ bytes. read_as (from_be_bytes w) (first_bytes fault (byte_len w) bytes);
  text = λ n. to_be_bytes w n;
  Fits = λ n. n < 2 ^ (8 * byte_len w);
  Spells = λ n bytes. (length bytes ≡ byte_len w) × (n ≡ from_be_bytes w bytes);
}

-- a flag: false for 0, true for any other byte; 1 is written for true
abbrev pub flag : {F : Type 0} → F → Format ℕ F Bool
flag fault =
    narrow fault (λ n. Some (not (n == 0))) (λ holds. if holds then 0x01 else 0x00) (byte fault)

-- ---- a part that may be absent

-- the text of a part that may be absent: 0 for an absent part, else 1 and the text of the part
abbrev pub optional_text : {A : Type 0} → (A → List ℕ) → Option A → List ℕ
optional_text text None = 0x00 ∷ []
optional_text text (Some a) = 0x01 ∷ text a

-- whether the part fits, if it is present
abbrev pub OptionalFits : {A : Type 0} → (A → Type 0) → Option A → Type 0
OptionalFits Fits None = Unit {0}
OptionalFits Fits (Some a) = Fits a

-- whether the bytes spell a part that may be absent: the flag false alone, or the flag true
-- followed by a spelling of the part
abbrev pub OptionalSpells : {A : Type 0} → (Bool → List ℕ → Type 0) → (A → List ℕ → Type 0)
    → Option A → List ℕ → Type 0
OptionalSpells IsFlag Spells None = IsFlag false
OptionalSpells IsFlag Spells (Some a) = IsJoined (IsFlag true) (Spells a)

-- a flag, followed by the part if it is true
abbrev pub optional : {F A : Type 0} → F → Format ℕ F A → Format ℕ F (Option A)
optional fault part = record {
  read = λ bytes. (flag fault).read bytes >>= λ present.
      if present.0 then read_as Some (part.read present.1) else Ok (None, present.1);
  text = optional_text part.text;
  Fits = OptionalFits part.Fits;
  Spells = OptionalSpells (flag fault).Spells part.Spells;
}

-- ---- a choice by the next byte

-- one of a choice, or the fault if there is no byte
abbrev pub read_one_of : {F A : Type 0} → F → Choice ℕ F A → List ℕ → Result (A × List ℕ) F
read_one_of missing c bytes = next_read same_byte missing c bytes

-- the format that a choice states
abbrev pub one_of : {F A : Type 0} → F → (c : Choice ℕ F A) → (A → Parts c) → Format ℕ F A
one_of missing c parts = choice_by same_byte missing c parts
