-- The written text of a value that fits spells it.
use Rattle.std.proofs.Common.{◌≡◌, ℕ, ◌+◌, ◌^◌, ◌<◌, ◌≤◌, Bool, true, false, List, ◌++◌, length, ℤ, FitsSigned, refl, sym, ap, ◌∙◌, arith, inl, inr}
use Rattle.std.specs.Int.{Width, w8, w16, w32, w64, byte_len, from_be_bytes, to_be_bytes, cast_signed, cast_unsigned, bytes_high_first}
use Rattle.std.proofs.Math.Facts.{Fits-lt-pow, Fits-of_z, to_z-of_z}
use Rattle.std.proofs.lemmas.Bool.{cases_lt, lt-ltb, le-ltb}
use Rattle.std.proofs.lemmas.List.{length-append}
use Rattle.std.proofs.lemmas.Nat.{from_be_bytes-to_be_bytes_2, from_be_bytes-to_be_bytes_4, from_be_bytes-to_be_bytes_8}
use Rattle.cosem_axdr.specs.Limits.{max_text}
use Rattle.cosem_axdr.specs.Reading.{big_endian}
use Rattle.cosem_axdr.specs.Spelling.{IsLength, IsString, IsUnsigned, IsSigned, IsBoolean, AreContents, AreSpelled, IsSpelling, length_text, string_text, contents_text, texts, text, IsWithin, AreWithin, IsFine, AreFine, IsFit}
use Rattle.cosem_axdr.specs.Tree.{Tree, Trees, count_of, null, array, structure, boolean, bit_string, double_long, double_long_unsigned, octet_string, visible_string, utf8_string, integer, long, unsigned, long_unsigned, long64, long64_unsigned, enumerated, date_time, date, time, no_trees, tree}

-- ---- lengths

-- a length of one to four bytes is the number that its bytes hold
back_1 : (n : ℕ) → n < 2 ^ 8 → n ≡ big_endian (bytes_high_first 1 n)
back_1 n below = omega arith

back_2 : (n : ℕ) → n < 2 ^ 16 → n ≡ big_endian (bytes_high_first 2 n)
back_2 n below = omega arith

back_3 : (n : ℕ) → n < 2 ^ 24 → n ≡ big_endian (bytes_high_first 3 n)
back_3 n below = omega arith

back_4 : (n : ℕ) → n < 2 ^ 32 → n ≡ big_endian (bytes_high_first 4 n)
back_4 n below = omega arith

-- the shortest form of a length is one of its forms
pub length_spells : (n : ℕ) → n < 2 ^ 32 → IsLength (length_text n) n
length_spells n below =
    elim (cases_lt n 0x80) [
      | inl h ↦ rw (lt-ltb n 0x80 h) (inl (h, refl, refl))
      | inr h ↦ rw (le-ltb n 0x80 h) (elim (cases_lt n (2 ^ 8)) [
        | inl a ↦ rw (lt-ltb n (2 ^ 8) a) (inr (omega arith, omega arith, refl, back_1 n a))
        | inr a ↦ rw (le-ltb n (2 ^ 8) a) (elim (cases_lt n (2 ^ 16)) [
          | inl b ↦ rw (lt-ltb n (2 ^ 16) b) (inr (omega arith, omega arith, refl, back_2 n b))
          | inr b ↦ rw (le-ltb n (2 ^ 16) b) (elim (cases_lt n (2 ^ 24)) [
            | inl c ↦ rw (lt-ltb n (2 ^ 24) c) (inr (omega arith, omega arith, refl, back_3 n c))
            | inr c ↦ rw (le-ltb n (2 ^ 24) c)
                (inr (omega arith, omega arith, refl, back_4 n below))
          ])
        ])
      ])
    ]

-- a string that is not too long
string_spells : (bytes : List ℕ) → length (string_text bytes) ≤ max_text
    → IsString (string_text bytes) bytes
string_spells bytes short =
    record {
      length_text = length_text (length bytes);
      parts = refl;
      is_length = length_spells (length bytes)
          (omega (arith, length-append (length_text (length bytes)) bytes));
    }

-- ---- numbers

-- the bytes of a number of this width: their number, and that they hold it
record IsWide (w : Width) (limit : ℕ) : Type 0 where
  long : (n : ℕ) → length (to_be_bytes w n) ≡ byte_len w
  back : (n : ℕ) → n < limit → n ≡ from_be_bytes w (to_be_bytes w n)
  below : (z : ℤ) → FitsSigned w z → cast_unsigned w z < limit

wide8 : IsWide w8 (2 ^ 8)
wide8 = record {
  long = λ n. refl;
  back = λ n lt. omega arith;
  below = λ z fits. Fits-lt-pow (Fits-of_z fits);
}

wide16 : IsWide w16 (2 ^ 16)
wide16 = record {
  long = λ n. refl;
  back = λ n lt. sym (from_be_bytes-to_be_bytes_2 n lt);
  below = λ z fits. Fits-lt-pow (Fits-of_z fits);
}

wide32 : IsWide w32 (2 ^ 32)
wide32 = record {
  long = λ n. refl;
  back = λ n lt. sym (from_be_bytes-to_be_bytes_4 n lt);
  below = λ z fits. Fits-lt-pow (Fits-of_z fits);
}

wide64 : IsWide w64 (2 ^ 64)
wide64 = record {
  long = λ n. refl;
  back = λ n lt. sym (from_be_bytes-to_be_bytes_8 n lt);
  below = λ z fits. Fits-lt-pow (Fits-of_z fits);
}

unsigned_spells : (w : Width) (limit : ℕ) → IsWide w limit → (n : ℕ) → n < limit
    → IsUnsigned w (to_be_bytes w n) n
unsigned_spells w limit wide n below = (wide.long n, wide.back n below)

signed_spells : (w : Width) (limit : ℕ) → IsWide w limit → (z : ℤ) → FitsSigned w z
    → IsSigned w (to_be_bytes w (cast_unsigned w z)) z
signed_spells w limit wide z fits = (
  wide.long (cast_unsigned w z),
  sym (to_z-of_z fits)
      ∙ ap (cast_signed w) (wide.back (cast_unsigned w z) (wide.below z fits)),
)

-- a boolean as one byte
boolean_spells : (b : Bool) → IsBoolean (contents_text (boolean b)) b
boolean_spells true = (1, refl, refl)
boolean_spells false = (0, refl, refl)

-- ---- values

-- the contents of a value, and consecutive items
mutual
  contents_spell : (t : Tree) → IsWithin t → IsFine t → length (contents_text t) ≤ max_text
      → AreContents (contents_text t) t
  contents_spell null within fine short = refl
  contents_spell (array ts) within fine short =
      record {
        length_text = length_text (count_of ts);
        items = texts ts;
        parts = refl;
        is_length = length_spells (count_of ts) (omega (arith, fine.0));
        few = fine.0;
        are_items = items_spell ts within fine.1
            (omega (arith, length-append (length_text (count_of ts)) (texts ts)));
      }
  contents_spell (structure ts) within fine short =
      record {
        length_text = length_text (count_of ts);
        items = texts ts;
        parts = refl;
        is_length = length_spells (count_of ts) (omega (arith, fine.0));
        few = fine.0;
        are_items = items_spell ts within fine.1
            (omega (arith, length-append (length_text (count_of ts)) (texts ts)));
      }
  contents_spell (boolean b) within fine short = boolean_spells b
  contents_spell (bit_string bits bytes) within fine short =
      record {
        length_text = length_text bits;
        raw = bytes;
        parts = refl;
        is_length = length_spells bits (omega (
          arith,
          fine.0,
          length-append (length_text bits) bytes,
        ));
        long = fine.0;
        value = sym fine.1;
      }
  contents_spell (double_long z) within fine short = signed_spells w32 (2 ^ 32) wide32 z within
  contents_spell (double_long_unsigned n) within fine short =
      unsigned_spells w32 (2 ^ 32) wide32 n within
  contents_spell (octet_string bytes) within fine short = string_spells bytes short
  contents_spell (visible_string bytes) within fine short = string_spells bytes short
  contents_spell (utf8_string bytes) within fine short = string_spells bytes short
  contents_spell (integer z) within fine short = signed_spells w8 (2 ^ 8) wide8 z within
  contents_spell (long z) within fine short = signed_spells w16 (2 ^ 16) wide16 z within
  contents_spell (unsigned n) within fine short = unsigned_spells w8 (2 ^ 8) wide8 n within
  contents_spell (long_unsigned n) within fine short = unsigned_spells w16 (2 ^ 16) wide16 n within
  contents_spell (long64 z) within fine short = signed_spells w64 (2 ^ 64) wide64 z within
  contents_spell (long64_unsigned n) within fine short =
      unsigned_spells w64 (2 ^ 64) wide64 n within
  contents_spell (enumerated n) within fine short = unsigned_spells w8 (2 ^ 8) wide8 n within
  contents_spell (date_time bytes) within fine short = (within.0, refl)
  contents_spell (date bytes) within fine short = (within.0, refl)
  contents_spell (time bytes) within fine short = (within.0, refl)

  items_spell : (ts : Trees) → AreWithin ts → AreFine ts → length (texts ts) ≤ max_text
      → AreSpelled (texts ts) ts
  items_spell no_trees within fine short = refl
  items_spell (tree t ts) within fine short =
      let len : length (text t ++ texts ts) ≡ length (text t) + length (texts ts) =
      length-append (text t) (texts ts) in
      record {
        first = text t;
        others = texts ts;
        parts = refl;
        is_first = record {
          contents = contents_text t;
          parts = refl;
          are_contents = contents_spell t within.0 fine.0 (omega arith);
        };
        are_others = items_spell ts within.1 fine.1 (omega arith);
      }

-- the written text of a value that fits spells it
pub text_spells : (t : Tree) → IsFit t → IsSpelling (text t) t
text_spells t fit = record {
  spells = record {
    contents = contents_text t;
    parts = refl;
    are_contents = contents_spell t fit.within fit.fine (omega (arith, fit.short));
  };
  flat = fit.flat;
  short = fit.short;
}
