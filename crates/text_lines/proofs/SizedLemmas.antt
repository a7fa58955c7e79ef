-- Words that write a given number of bytes: decoding into an array finds the same bytes.
use Rattle.std.proofs.Common.{◌≡◌, ℕ, true, ◌*◌, ◌/◌, ◌%◌, inl, inr, List, length, Option, Some, None, Result, Ok, Err, refl, sym, ap, ◌∙◌, arith}
use Rattle.std.specs.Result.{result_ok}
use Rattle.std.proofs.lemmas.Bool.{cases_eq}
use Rattle.hex.specs.Hex.{decode_of, decode_sized}
use Rattle.hex.specs.declared.error.FromHexError.{FromHexError}
use Rattle.hex.proofs.HexLemmas.{decode_of-odd, decode_of-ok, decode_sized-odd, decode_sized-other, decode_sized-twice}
use Rattle.text_lines.specs.Hexadecimal.{bytes_of, bytes_sized, is_hexadecimal, only_sized}

-- bytes of the right number are kept, and others are not
kept : (n : ℕ) (bytes : List ℕ) → length bytes ≡ n → only_sized n (Some bytes) ≡ Some bytes
kept n bytes e = grind (arith)

dropped : (n : ℕ) (bytes : List ℕ) → (length bytes ≡ n → ⊥) → only_sized n (Some bytes) ≡ None
dropped n bytes other = grind (arith)

-- digits for `n` bytes
of_size : (n : ℕ) (word : List ℕ) (r : Result (List ℕ) FromHexError) → decode_of word ≡ r
    → length word ≡ 2 * n → only_sized n (result_ok r) ≡ result_ok r
of_size n word (Err fault) e len = refl
of_size n word (Ok bytes) e len =
    let facts = decode_of-ok word bytes e in
    kept n bytes (omega (arith, facts.2, len))

-- digits for another number of bytes
of_other_size : (n : ℕ) (word : List ℕ) (r : Result (List ℕ) FromHexError) → decode_of word ≡ r
    → length word % 2 ≡ 0 → (length word / 2 ≡ n → ⊥) → only_sized n (result_ok r) ≡ None
of_other_size n word (Err fault) e even other = refl
of_other_size n word (Ok bytes) e even other =
    let facts = decode_of-ok word bytes e in
    dropped n bytes (λ same. other (omega (arith, facts.2, same)))

-- decoding into an array of `n` bytes finds those that a word writes, if they are `n`
decoded_sized : (n : ℕ) (word : List ℕ)
    → only_sized n (result_ok (decode_of word)) ≡ result_ok (decode_sized word n)
decoded_sized n word =
    elim (cases_eq (length word % 2) 1) [
      | inl odd ↦ rw (decode_of-odd word odd, decode_sized-odd word n odd) refl
      | inr even ↦
          let z : length word % 2 ≡ 0 = omega arith in
          elim (cases_eq (length word / 2) n) [
            | inl half ↦
                let len : length word ≡ 2 * n = omega arith in
                rw (decode_sized-twice word n len) (of_size n word (decode_of word) refl len)
            | inr other ↦
                rw (decode_sized-other word n z other)
                (of_other_size n word (decode_of word) refl z other)
          ]
    ]

-- what decoding into an array gives, for digits of the right form
pub array_read : (n : ℕ) (word : List ℕ) (decoded : Result (List ℕ) FromHexError)
    (read : Option (List ℕ)) → is_hexadecimal word ≡ true → decoded ≡ decode_sized word n
    → read ≡ result_ok decoded → read ≡ bytes_sized n word
unfolding bytes_of
array_read n word decoded read form is_decoded is_read =
    rw form (is_read ∙ ap result_ok is_decoded ∙ sym (decoded_sized n word))
