-- Words of decimal digits: what they are read as, and that a number that is written is read back.
use Rattle.std.proofs.Common.{rules, ◌≡◌, ℕ, ◌+◌, ◌-◌, ◌*◌, ◌^◌, ◌<◌, ◌≤◌, Bool, true, false, cond, not, ◌&&◌, ◌||◌, nat_lt, nat_le, ◌==◌, inl, inr, List, [], ◌∷◌, ◌++◌, length, take, get_or, slice_index, Option, Some, None, IsTrue, decimal, refl, sym, ap, ◌∙◌, arith}
use Rattle.std.specs.Char.{is_ascii_digit, digit_value}
use Rattle.std.specs.Int.{IsInRange}
use Rattle.std.specs.List.{list_all}
use Rattle.std.specs.Str.Parse.{digits_value, digits_value_after}
use Rattle.std.proofs.lemmas.Bool.{and_parts, cases_lt}
use Rattle.std.proofs.lemmas.Bool.Decides.{nat_tests}
use Rattle.std.proofs.lemmas.Fmt.{decimal_nonempty, decimal_digit, first_decimal, digits_decimal, digits_value-decimal, decimal-digits_value}
use Rattle.std.proofs.lemmas.List.{take_more, take_all}
use Rattle.std.proofs.lemmas.List.Folds.{list_all_at, list_all_more}
use Rattle.std.proofs.lemmas.Str.{digit_value_digit}
use Rattle.std.proofs.lemmas.Str.Parse.{IsNumeralModel, numerals_by_value, digits_value-take-le}
use Rattle.text_lines.specs.Numbers.{is_decimal, begins_number, value_of, number_of}

-- the test of a word's digits is that of std, and so is their value
digits_model : IsNumeralModel (λ word. list_all is_ascii_digit word ≡ true) (digits_value 10)
digits_model = numerals_by_value _ (search rules)

-- the conditions under which a word is a number
record IsDecimal (word : List ℕ) : Type 0 where
  some : 0 < length word
  digits : list_all is_ascii_digit word ≡ true
  lead : slice_index word 0 ≡ 48 → length word ≡ 1

decimal_parts : (word : List ℕ) → is_decimal word ≡ true → IsDecimal word
decimal_parts word e =
    let front = and_parts (nat_lt 0 (length word) && list_all is_ascii_digit word) (length word == 1
    || not (slice_index word 0 == 48)) e in
    let both = and_parts (nat_lt 0 (length word)) (list_all is_ascii_digit word) front.0 in
    record {
      some = grind (arith, nat_tests);
      digits = both.1;
      lead = λ zero. grind (arith, nat_tests);
    }

-- a choice that gave a value
pub chosen_some : (b : Bool) (x y : ℕ) → cond b (Some x) None ≡ Some y → (b ≡ true) × (x ≡ y)
chosen_some true x y e = (refl, cc e)
chosen_some false x y e = absurd (cc e)

-- two tests that are passed
and_both : (x y : Bool) → x ≡ true → y ≡ true → (x && y) ≡ true
and_both x y e f = rw (e, f) refl

-- ---- digit by digit

-- the digits of two words, one after the other
after-append : (n : ℕ) (xs ys : List ℕ) → digits_value_after 10 n (xs ++ ys)
    ≡ digits_value_after 10 (digits_value_after 10 n xs) ys
after-append n [] ys = refl
after-append n (x ∷ xs) ys = after-append (n * 10 + digit_value x) xs ys

-- the first i bytes are digits, and write this number
pub record Taken (limit : ℕ) (word : List ℕ) (i number : ℕ) : Type 0 where
  pub digits : list_all is_ascii_digit (take i word) ≡ true
  pub value : digits_value 10 (take i word) ≡ number
  pub within : number ≤ limit

pub none_taken : (limit : ℕ) (word : List ℕ) → Taken limit word 0 0
none_taken limit [] = record { digits = refl; value = refl; within = omega arith }
none_taken limit (c ∷ word) = record { digits = refl; value = refl; within = omega arith }

-- the number that one more digit writes
more_value : (word : List ℕ) (i number digit : ℕ) → i < length word → digit ≡ get_or word i 0
    → is_ascii_digit digit ≡ true → digits_value 10 (take i word) ≡ number
    → digits_value 10 (take (i + 1) word) ≡ number * 10 + (digit - 48)
more_value word i number digit lt is test value =
    let range : IsInRange 48 57 digit = grind (arith, nat_tests) in
    let own : digit - 48 ≡ digit_value digit = omega (arith, digit_value_digit digit range) in
    ap (digits_value 10) (take_more word i 0 lt ∙ ap (λ (c : ℕ). take i word ++ c ∷ []) (sym is))
    ∙ after-append 0 (take i word) (digit ∷ [])
    ∙ ap (λ (n : ℕ). n * 10 + digit_value digit) value
    ∙ ap (λ (d : ℕ). number * 10 + d) (sym own)

pub digit_taken : (limit : ℕ) (word : List ℕ) (i number digit longer : ℕ) → i < length word → digit
    ≡ get_or word i 0
    → (IsTrue (is_ascii_digit digit) × (number * 10 + (digit - 48) ≤ limit))
    × (longer ≡ number * 10 + (digit - 48)) → Taken limit word i number
    → Taken limit word (i + 1) longer
digit_taken limit word i number digit longer lt is more so_far =
    record {
      digits = list_all_more is_ascii_digit word i 0 lt
          ∙ and_both _ _ so_far.digits (ap is_ascii_digit (sym is) ∙ more.0.0);
      value = more_value word i number digit lt is more.0.0 so_far.value ∙ sym more.1;
      within = omega (arith, more.0.1, more.1);
    }

-- a choice whose test fails
chosen_none : (b : Bool) (x : Option ℕ) → ¬ (b ≡ true) → cond b x None ≡ None
chosen_none true x unmet = absurd (unmet refl)
chosen_none false x unmet = refl

-- each byte of digits is a digit
digit_at : (word : List ℕ) (i : ℕ) → i < length word → list_all is_ascii_digit word ≡ true
    → is_ascii_digit (get_or word i 0) ≡ true
digit_at word i lt all = by (is_ascii_digit (get_or word i 0)) refl
  where
    by : (b : Bool) → is_ascii_digit (get_or word i 0) ≡ b → b ≡ true
    by true e = refl
    by false e =
        let none : list_all is_ascii_digit word ≡ false =
        list_all_at is_ascii_digit word i 0 lt e in
        absurd (cc (sym all ∙ none))

pub digit_refused : (limit : ℕ) (word : List ℕ) (i number digit : ℕ) → i < length word → digit
    ≡ get_or word i 0
    → ¬ (IsTrue (is_ascii_digit digit) × (number * 10 + (digit - 48) ≤ limit))
    → Taken limit word i number → value_of limit word ≡ None
unfolding value_of
digit_refused limit word i number digit lt is unfit so_far =
    chosen_none (list_all is_ascii_digit word && nat_le (digits_value 10 word) limit)
    (Some (digits_value 10 word)) (λ met.
    let both = and_parts (list_all is_ascii_digit word) (nat_le (digits_value 10 word) limit) met in
    let test : is_ascii_digit digit ≡ true = ap is_ascii_digit is ∙ digit_at word i lt both.0 in
    let fits : digits_value 10 word ≤ limit = grind (arith, nat_tests) in
    unfit (
      test,
      omega (
        arith,
        more_value word i number digit lt is test so_far.value,
        digits_value-take-le 10 word (i + 1) (omega arith),
        fits,
      ),
    ))

pub all_taken : (limit : ℕ) (word : List ℕ) (i number : ℕ) → length word ≤ i
    → Taken limit word i number → value_of limit word ≡ Some number
unfolding value_of
all_taken limit word i number le so_far =
    let whole = take_all i word le in
    let digits : list_all is_ascii_digit word ≡ true = ap (list_all is_ascii_digit) (sym whole)
    ∙ so_far.digits in
    let value : digits_value 10 word ≡ number = ap (digits_value 10) (sym whole) ∙ so_far.value in
    let within = so_far.within in
    let fits : nat_le number limit ≡ true = grind (arith, nat_tests) in
    rw (digits, value, fits) refl

-- the parts of the form of a number
form_parts : (some digits lead fits : Bool) (n : Option ℕ)
    → cond (some && lead) (cond (digits && fits) n None) None
    ≡ cond ((some && digits && lead) && fits) n None
form_parts true true true fits n = refl
form_parts true true false fits n = refl
form_parts true false true fits n = refl
form_parts true false false fits n = refl
form_parts false digits lead fits n = refl

pub begins_not : (limit : ℕ) (word : List ℕ) → begins_number word ≡ false
    → number_of limit word ≡ None
unfolding number_of value_of
begins_not limit word other =
    sym (form_parts (nat_lt 0 (length word)) (list_all is_ascii_digit word) (length word == 1
    || not (slice_index word 0 == 48)) (nat_le (digits_value 10 word) limit)
    (Some (digits_value 10 word)))
    ∙ ap (λ (b : Bool). cond b (value_of limit word) None) other

pub begins_so : (limit : ℕ) (word : List ℕ) → begins_number word ≡ true → number_of limit word
    ≡ value_of limit word
unfolding number_of value_of
begins_so limit word so =
    sym (form_parts (nat_lt 0 (length word)) (list_all is_ascii_digit word) (length word == 1
    || not (slice_index word 0 == 48)) (nat_le (digits_value 10 word) limit)
    (Some (digits_value 10 word)))
    ∙ ap (λ (b : Bool). cond b (value_of limit word) None) so

pub value_within : (limit number : ℕ) (word : List ℕ) → value_of limit word ≡ Some number
    → number ≤ limit
unfolding value_of
value_within limit number word e =
    let found = chosen_some (list_all is_ascii_digit word && nat_le (digits_value 10 word) limit)
    (digits_value 10 word) number e in
    let both = and_parts (list_all is_ascii_digit word)
    (nat_le (digits_value 10 word) limit) found.0 in
    let fits : digits_value 10 word ≤ limit = grind (arith, nat_tests) in
    omega (arith, fits, found.1)

-- rules for the function that reads a number
pub ruleset reading = (begins_not, begins_so, value_within, nat_tests)

-- ---- written and read back

-- boolean tests of numbers
below_test : (m n : ℕ) → m < n → nat_lt m n ≡ true
below_test m n h = grind (arith, nat_tests)

lead_test : (word : List ℕ) → 48 < slice_index word 0
    → (length word == 1 || not (slice_index word 0 == 48)) ≡ true
lead_test word h = grind (arith, nat_tests)

-- a number that is written has the form of a number
pub is_decimal-decimal : (n : ℕ) → n < 2 ^ 64 → is_decimal (decimal n) ≡ true
is_decimal-decimal n small =
    elim (cases_lt 0 n) [
      | inl above ↦
          and_both _ _ (and_both _ _ (below_test 0 (length (decimal n)) (decimal_nonempty n small))
          (digits_decimal digits_model n small))
          (lead_test (decimal n) (first_decimal n above small))
      | inr none ↦
          let zero : n ≡ 0 = omega arith in
          rw (zero, decimal_digit 0 (omega arith)) refl
    ]

-- a number that is written is read back
pub number_again : (limit n : ℕ) → n ≤ limit → limit < 2 ^ 64 → number_of limit (decimal n) ≡ Some n
unfolding number_of
number_again limit n within small =
    let form = is_decimal-decimal n (omega arith) in
    let value = digits_value-decimal digits_model n (omega arith) in
    let fits : nat_le n limit ≡ true = grind (arith, nat_tests) in
    rw (form, value, fits) refl

-- no other word writes a number
pub number_only : (limit n : ℕ) (word : List ℕ) → limit < 2 ^ 64 → number_of limit word ≡ Some n
    → (word ≡ decimal n) × (n ≤ limit)
unfolding number_of
number_only limit n word small e =
    let found = chosen_some (is_decimal word && nat_le (digits_value 10 word) limit)
    (digits_value 10 word) n e in
    let both = and_parts (is_decimal word) (nat_le (digits_value 10 word) limit) found.0 in
    let parts = decimal_parts word both.0 in
    let value = found.1 in
    let within : digits_value 10 word ≤ limit = grind (arith, nat_tests) in
    let written = decimal-digits_value digits_model word parts.digits parts.some parts.lead
    (omega arith) in
    (sym written ∙ ap decimal value, omega arith)
