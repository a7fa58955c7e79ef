-- The values of the options of a command line.
--     IsNumber    the number of an option
--     IsFlag      whether an option without a value is given
use Rattle.std.specs.Prelude.{◌≡◌, ◌<◌, ◌^◌, ℕ, Bool, true, false, codes, List, Some}
use Rattle.std.specs.Str.Parse.{IsNumeral, digits_value, without_leading_plus}
use Rattle.clap.specs.Matches.{one_text}
use Rattle.clap.specs.declared.parser.matches.Found.{Found}

-- whether this is the number of the option of this name: it is written in decimal and fits this
-- number of bits
abbrev pub IsNumber : ℕ → Found → List ℕ → ℕ → Type 0
IsNumber bits found name number = (text : List ℕ) → one_text found name ≡ Some text
    → IsNumeral 10 (without_leading_plus text)
    → digits_value 10 (without_leading_plus text) < 2 ^ bits
    → number ≡ digits_value 10 (without_leading_plus text)

-- whether the option of this name is given
pub record IsFlag (found : Found) (name : List ℕ) (value : Bool) : Type 0 where
  pub given : one_text found name ≡ Some (codes "true") → value ≡ true
  pub absent : one_text found name ≡ Some (codes "false") → value ≡ false
