-- Texts of hexadecimal that are read.
use Rattle.std.proofs.Common.{◌≡◌, ◌+◌, ◌<◌, ◌≤◌, ℕ, Bool, true, false, not, ◌&&◌, ◌||◌, List, [], ◌∷◌, Some, None, length, get_or, filter, cond, Result, Ok, Err, refl, sym, ap}
use Rattle.std.specs.List.{position, list_all}
use Rattle.std.specs.Io.KnownBytes.{Consumes, IsAtEnd}
use Rattle.std.proofs.lemmas.List.Quantifiers.{position-Some}
use Rattle.std.proofs.lemmas.List.Sums.{AllPass-from_list_all, list_all-from_AllPass}
use Rattle.hex.proofs.HexLemmas.{decode_of-ok}
use Rattle.hex.specs.Hex.{is_hex_digit}
use Rattle.hex.specs.declared.error.FromHexError.{FromHexError}
use Rattle.session_io.specs.Hexadecimal.{IsHex, IsUndecoded, StopsReading, bytes_of, fault_at, is_blank, is_taken, max_characters}
use Rattle.session_io.specs.Sides.{Input}
use Rattle.session_io.specs.declared.fault.TextFault.{TextFault}
use Rattle.session_io.specs.declared.fault.TextFault.TheVariants as text_fault

-- a character that is not skipped, and one that is wrong
abbrev keeps : ℕ → Bool
keeps character = not (is_blank character)

abbrev is_wrong : ℕ → Bool
is_wrong character = not (is_taken character)

skipped : (digit later : Bool) → later ≡ true → ((digit || true) && later) ≡ true
skipped true later e = e
skipped false later e = e

kept : (digit rest later : Bool) → (rest ≡ true → later ≡ true) → (digit && rest) ≡ true
    → ((digit || false) && later) ≡ true
kept true rest later more e = more e
kept false rest later more e = absurd cc

one_taken : (c : ℕ) (blank : Bool) (digits : List ℕ) (later : Bool)
    → (list_all is_hex_digit digits ≡ true → later ≡ true)
    → list_all is_hex_digit (cond (not blank) (c ∷ digits) digits) ≡ true
    → ((is_hex_digit c || blank) && later) ≡ true
one_taken c true digits later more e = skipped (is_hex_digit c) later (more e)
one_taken c false digits later more e = kept (is_hex_digit c) (list_all is_hex_digit digits) later
    more e

-- where all that is not skipped is a digit, each character is taken
all_taken : (text : List ℕ) → list_all is_hex_digit (filter keeps text) ≡ true
    → list_all is_taken text ≡ true
all_taken [] e = refl
all_taken (c ∷ text) e = one_taken c (is_blank c) (filter keeps text) (list_all is_taken text)
    (all_taken text) e

clash : (b : Bool) → not b ≡ true → b ≡ true → ⊥
clash true e f = absurd cc
clash false e f = absurd cc

no_hex : (text : List ℕ) (index : ℕ) → position is_wrong text ≡ Some index → (input : List ℕ)
    → IsHex text input → ⊥
no_hex text index found input hex =
    let digits = decode_of-ok (filter keeps text) input hex in
    let taken = AllPass-from_list_all is_taken text
    (all_taken text (list_all-from_AllPass is_hex_digit (filter keeps text) digits.1)) in
    let place = position-Some is_wrong text index 0 found in
    clash (is_taken (get_or text index 0)) place.1 (taken index 0 place.0)

-- a wrong character is within its text
pub place_within : (text : List ℕ) (index : ℕ)
    → position (λ character. not (is_taken character)) text ≡ Some index → index < length text
place_within text index found = (position-Some is_wrong text index 0 found).0

-- a text with a wrong character, and one without that is not decoded
pub undecoded_at : (text : List ℕ) (index : ℕ)
    → position (λ character. not (is_taken character)) text ≡ Some index
    → IsUndecoded text (text_fault.Digit (index + 1))
undecoded_at text index found = (sym (ap fault_at found), no_hex text index found)

no_bytes : (read : Result (List ℕ) FromHexError) (error : FromHexError) → read ≡ Err error
    → (input : List ℕ) → read ≡ Ok input → ⊥
no_bytes (Ok x) error e input f = absurd cc
no_bytes (Err x) error e input f = absurd cc

pub undecoded_odd : (text : List ℕ) (error : FromHexError)
    → position (λ character. not (is_taken character)) text ≡ None
    → bytes_of text ≡ Err error → IsUndecoded text text_fault.OddDigits
undecoded_odd text error none e = (sym (ap fault_at none), no_bytes (bytes_of text) error e)

-- a whole text that was read and not decoded
pub undecoded : (text : List ℕ) (before after : Input) (f : TextFault)
    → Consumes before.left after.left text → IsAtEnd after.left → length text ≤ max_characters
    → IsUndecoded text f → StopsReading before f after
undecoded text before after (text_fault.Digit character) read at_end within wrong =
    record { text = text; read = read; cause = (wrong, within, at_end) }
undecoded text before after text_fault.OddDigits read at_end within wrong =
    record { text = text; read = read; cause = (wrong, within, at_end) }
undecoded text before after text_fault.TooLong read at_end within wrong = absurd wrong
undecoded text before after text_fault.Read read at_end within wrong = absurd wrong
undecoded text before after text_fault.Memory read at_end within wrong =
    record { text = text; read = read; cause = tt }
