-- Reading and spelling agree: the bytes that a value was read from spell it, and the bytes that
-- spell a value read as it.
use Rattle.std.proofs.Common.{◌≡◌, ◌≢◌, ℕ, zero, suc, ◌+◌, ◌-◌, ◌*◌, ◌/◌, ◌%◌, ◌<◌, ◌≤◌, ◌^◌, inl, inr, true, false, cond, List, [], ◌∷◌, ◌++◌, length, get_or, Option, Some, None, Result, Ok, Err, refl, sym, ap, ◌∙◌, arith, ℤ, pos, negsuc, ◌≤ℤ◌}
use Rattle.std.proofs.lemmas.Int.{ints}
use Rattle.std.proofs.lemmas.Bool.{cases_lt}
use Rattle.std.specs.Prelude.{◌==◌, IfSome}
use Rattle.std.specs.Int.{w16, from_be_bytes, cast_signed, cast_unsigned}
use Rattle.std.proofs.lemmas.Nat.{be_bytes_2, from_be_bytes-to_be_bytes_2}
use Rattle.std.proofs.lemmas.Bool.Decides.{nat_tests}
use Rattle.cosem_datetime.specs.declared.fault.PatternFault.{PatternFault}
use Rattle.cosem_datetime.specs.declared.date.DayOfMonth.{DayOfMonth}
use Rattle.cosem_datetime.specs.declared.date.DayOfMonth.TheVariants.{Any, Number, SecondLast, Last}
use Rattle.cosem_datetime.proofs.Days.{at_if}
use Rattle.cosem_datetime.specs.Fields.{DateFields, TimeFields, DateTimeFields, IsWithin, IsDayWithin, IsDeviationWithin, IsDateFields, IsTimeFields, IsDateTimeFields, year_bytes, field_byte, day_byte, deviation_bytes, date_bytes, time_bytes, date_time_bytes}
use Rattle.cosem_datetime.specs.Reading.{◌>>=◌, field_of, month_of, day_of, year_of, is_deviation, deviation_of, date_of, time_of, date_time_of}

pub bind_ok : {A B : Type 0} (r : Result A PatternFault) (f : A → Result B PatternFault) (y : B) → r
    >>= f ≡ Ok y → (x : A) × ((r ≡ Ok x) × (f x ≡ Ok y))
bind_ok (Ok x) f y e = (x, (refl, e))
bind_ok (Err d) f y e = absurd cc

field_takes : (low high b : ℕ) (f : Option ℕ) → field_of low high b ≡ Ok f → IsWithin low high f
    × (b ≡ field_byte f)
field_takes low high b None e = grind (arith, nat_tests)
field_takes low high b (Some n) e = grind (arith, nat_tests)

field_again : (low high : ℕ) (f : Option ℕ) → high < 255 → IsWithin low high f
    → field_of low high (field_byte f) ≡ Ok f
field_again low high None h k = grind (arith, nat_tests)
field_again low high (Some n) h k = grind (arith, nat_tests)

day_takes : (b : ℕ) (d : DayOfMonth) → day_of b ≡ Ok d → IsDayWithin d × (b ≡ day_byte d)
day_takes b Any e = grind (arith, nat_tests)
day_takes b (Number n) e = grind (arith, nat_tests)
day_takes b SecondLast e = grind (arith, nat_tests)
day_takes b Last e = grind (arith, nat_tests)

day_again : (d : DayOfMonth) → IsDayWithin d → day_of (day_byte d) ≡ Ok d
day_again Any h = refl
day_again (Number n) h = grind (arith, nat_tests)
day_again SecondLast h = refl
day_again Last h = refl

month_takes : (b : ℕ) (f : Option ℕ) → month_of b ≡ Ok f → IsWithin 1 12 f × (b ≡ field_byte f)
month_takes b f e = grind (arith, nat_tests, field_takes 1 12 b f)

month_again : (f : Option ℕ) → IsWithin 1 12 f → month_of (field_byte f) ≡ Ok f
month_again None h = refl
month_again (Some n) h = grind (arith, nat_tests)

-- each item of the list is a byte
abbrev pub IsBytes : List ℕ → Type 0
IsBytes bytes = (i : ℕ) → get_or bytes i 0 < 256

abbrev done : {A : Type 0} → A → Result A PatternFault
done x = Ok x

guard_ok : {A : Type 0} (m n : ℕ) (f : PatternFault) (r : Result A PatternFault) (y : A)
    → cond (m == n) r (Err f) ≡ Ok y → (m ≡ n) × (r ≡ Ok y)
guard_ok m n f r y e = grind (arith, nat_tests)

three_ok : {A B C D : Type 0} (r : Result A PatternFault) (s : Result B PatternFault)
    (t : Result C PatternFault) (make : A → B → C → D) (y : D)
    → (r >>= (λ a. s >>= (λ b. t >>= (λ c. Ok (make a b c))))) ≡ Ok y → (a : A)
    × ((b : B) × ((c : C) × ((r ≡ Ok a) × ((s ≡ Ok b) × ((t ≡ Ok c) × (make a b c ≡ y))))))
three_ok (Ok a) (Ok b) (Ok c) make y e = (a, (b, (c, (refl, (refl, (refl, cc))))))
three_ok (Err f) s t make y e = absurd cc
three_ok (Ok a) (Err f) t make y e = absurd cc
three_ok (Ok a) (Ok b) (Err f) make y e = absurd cc

four_ok : {A B C D E : Type 0} (r : Result A PatternFault) (s : Result B PatternFault)
    (t : Result C PatternFault) (u : Result D PatternFault) (make : A → B → C → D → E) (y : E)
    → (r >>= (λ a. s >>= (λ b. t >>= (λ c. u >>= (λ d. Ok (make a b c d)))))) ≡ Ok y → (a : A)
    × ((b : B) × ((c : C) × ((d : D) × ((r ≡ Ok a)
    × ((s ≡ Ok b) × ((t ≡ Ok c) × ((u ≡ Ok d) × (make a b c d ≡ y))))))))
four_ok (Ok a) (Ok b) (Ok c) (Ok d) make y e =
    (a, (b, (c, (d, (refl, (refl, (refl, (refl, cc))))))))
four_ok (Err f) s t u make y e = absurd cc
four_ok (Ok a) (Err f) t u make y e = absurd cc
four_ok (Ok a) (Ok b) (Err f) u make y e = absurd cc
four_ok (Ok a) (Ok b) (Ok c) (Err f) make y e = absurd cc

pub equal : (m n : ℕ) → m == n ≡ true → m ≡ n
equal m n e = grind (arith, nat_tests)

pub unequal : (m n : ℕ) → m == n ≡ false → m ≡ n → ⊥
unequal m n e = grind (arith, nat_tests)

two_bytes : (a b : ℕ) → a < 256 → b < 256 → (i : ℕ) → get_or (a ∷ b ∷ []) i 0 < 256
two_bytes a b h k zero = h
two_bytes a b h k (suc zero) = k
two_bytes a b h k (suc (suc i)) = omega arith

year_takes : (a b : ℕ) → a < 256 → b < 256 → IfSome (year_of (a * 256 + b)) (λ y. y < 0xFFFF)
    × (a ∷ b ∷ [] ≡ year_bytes (year_of (a * 256 + b)))
year_takes a b h k =
    at_if (λ y. IfSome y (λ n. n < 0xFFFF) × (a ∷ b ∷ [] ≡ year_bytes y)) (a * 256
    + b == 0xFFFF) None (Some (a * 256 + b))
    (λ e. let all = equal _ _ e in let first : a ≡ 255 = omega arith in let second : b
    ≡ 255 = omega arith in
    (tt, rw (first, second) refl))
    (λ e. let some = unequal (a * 256 + b) 0xFFFF e in
    (omega arith, sym (be_bytes_2 (a ∷ b ∷ []) (a * 256 + b) refl (two_bytes a b h k) refl)))

year_again : (y : ℕ) → y < 0xFFFF → year_of (y / 256 % 256 * 256 + y % 256) ≡ Some y
year_again y h =
    let same : y / 256 % 256 * 256 + y % 256 ≡ y = omega arith in
    rw same (grind (arith, nat_tests))

date_parts_take : (a b m d w : ℕ) (p : DateFields) → a < 256 → b < 256
    → date_of (a ∷ b ∷ m ∷ d ∷ w ∷ []) ≡ Ok p → IsDateFields p
    × (a ∷ b ∷ m ∷ d ∷ w ∷ [] ≡ date_bytes p)
unfolding date_of
date_parts_take a b m d w p h k e =
    let make : Option ℕ → DayOfMonth → Option ℕ
    → DateFields = λ month day weekday. record {
      year = year_of (a * 256 + b);
      month = month;
      day = day;
      weekday = weekday;
    } in
    let parts = three_ok (month_of m) (day_of d) (field_of 1 7 w) make p e in
    let month = month_takes m _ parts.1.1.1.0 in
    let day = day_takes d _ parts.1.1.1.1.0 in
    let weekday = field_takes 1 7 w _ parts.1.1.1.1.1.0 in
    let year = year_takes a b h k in
    rw (← parts.1.1.1.1.1.1) (
      record {
        year = year.0;
        month = month.0;
        day = day.0;
        weekday = weekday.0;
      },
      ap (λ l. l ++ m ∷ d ∷ w ∷ []) year.1
          ∙ (rw (← month.1, ← day.1, ← weekday.1) refl),
    )

date_again_parts : (year month : Option ℕ) (day : DayOfMonth) (weekday : Option ℕ)
    → IsDateFields (record { year = year; month = month; day = day; weekday = weekday })
    → date_of (date_bytes (record { year = year; month = month; day = day; weekday = weekday }))
    ≡ Ok (record { year = year; month = month; day = day; weekday = weekday })
unfolding date_of
date_again_parts None month day weekday h =
    rw (
      month_again month h.month,
      day_again day h.day,
      field_again 1 7 weekday (omega arith) h.weekday,
    ) refl
date_again_parts (Some y) month day weekday h =
    rw (
      month_again month h.month,
      day_again day h.day,
      field_again 1 7 weekday (omega arith) h.weekday,
    ) (rw (year_again y h.year) refl)

pub date_again : (p : DateFields) → IsDateFields p → date_of (date_bytes p) ≡ Ok p
date_again p h = date_again_parts p.year p.month p.day p.weekday h

at_nil : (P : List ℕ → Type 0) (bytes : List ℕ) → length bytes ≡ 0 → P [] → P bytes
at_nil P [] h p = p
at_nil P (a ∷ rest) h p = absurd (omega arith)

at_cons : (P : List ℕ → Type 0) (n : ℕ) (bytes : List ℕ) → length bytes ≡ suc n
    → ((a : ℕ) (rest : List ℕ) → length rest ≡ n → P (a ∷ rest)) → P bytes
at_cons P n [] h p = absurd (omega arith)
at_cons P n (a ∷ rest) h p = p a rest (omega arith)

at_four : (P : List ℕ → Type 0) (bytes : List ℕ) → length bytes ≡ 4
    → ((a b c d : ℕ) → P (a ∷ b ∷ c ∷ d ∷ [])) → P bytes
at_four P bytes h p =
    at_cons P 3 bytes h (λ a r i. at_cons (λ l. P (a ∷ l)) 2 r i
    (λ b s j. at_cons (λ l. P (a ∷ b ∷ l)) 1 s j
    (λ c t k. at_cons (λ l. P (a ∷ b ∷ c ∷ l)) 0 t k
    (λ d u m. at_nil (λ l. P (a ∷ b ∷ c ∷ d ∷ l)) u m (p a b c d)))))

at_five : (P : List ℕ → Type 0) (bytes : List ℕ) → length bytes ≡ 5
    → ((a b c d e : ℕ) → P (a ∷ b ∷ c ∷ d ∷ e ∷ [])) → P bytes
at_five P bytes h p =
    at_cons P 4 bytes h (λ a r i. at_four (λ l. P (a ∷ l)) r i (p a))

at_seven_more : (P : List ℕ → Type 0) (bytes : List ℕ) → length bytes ≡ 12
    → ((a b c d e f g : ℕ) (rest : List ℕ) → length rest ≡ 5 → P (a ∷ b ∷ c ∷ d ∷ e ∷ f ∷ g ∷ rest))
    → P bytes
at_seven_more P bytes q p =
    at_cons P 11 bytes q (λ a r u. at_cons (λ l. P (a ∷ l)) 10 r u
    (λ b s v. at_cons (λ l. P (a ∷ b ∷ l)) 9 s v (λ c t w.
    at_cons (λ l. P (a ∷ b ∷ c ∷ l)) 8 t w (λ d x y. at_cons (λ l. P (a ∷ b ∷ c ∷ d ∷ l)) 7 x y
    (λ e z i. at_cons (λ l. P (a ∷ b ∷ c ∷ d ∷ e ∷ l)) 6 z i (λ f j k.
    at_cons (λ l. P (a ∷ b ∷ c ∷ d ∷ e ∷ f ∷ l)) 5 j k (λ g m n. p a b c d e f g m n)))))))

-- twelve bytes, one by one
pub at_twelve : (P : List ℕ → Type 0) (bytes : List ℕ) → length bytes ≡ 12
    → ((a b c d e f g h i j k l : ℕ) → P (a ∷ b ∷ c ∷ d ∷ e ∷ f ∷ g ∷ h ∷ i ∷ j ∷ k ∷ l ∷ [])) → P
    bytes
at_twelve P bytes q p =
    at_seven_more P bytes q (λ a b c d e f g rest m. at_five
    (λ l. P (a ∷ b ∷ c ∷ d ∷ e ∷ f ∷ g ∷ l)) rest m (p a b c d e f g))

date_len : (bytes : List ℕ) (p : DateFields) → date_of bytes ≡ Ok p → length bytes ≡ 5
unfolding date_of
date_len bytes p e = (guard_ok (length bytes) 5 _ _ p e).0

-- the bytes that a date was read from spell it
pub date_takes : (bytes : List ℕ) (p : DateFields) → IsBytes bytes → date_of bytes ≡ Ok p
    → IsDateFields p × (bytes ≡ date_bytes p)
date_takes bytes p fits e =
    at_five (λ l. IsBytes l → date_of l ≡ Ok p → IsDateFields p × (l ≡ date_bytes p)) bytes
    (date_len bytes p e)
    (λ a b m d w f g. date_parts_take a b m d w p (f 0) (f 1) g) fits e

time_parts_take : (h m s u : ℕ) (p : TimeFields) → time_of (h ∷ m ∷ s ∷ u ∷ []) ≡ Ok p
    → IsTimeFields p × (h ∷ m ∷ s ∷ u ∷ [] ≡ time_bytes p)
unfolding time_of
time_parts_take h m s u p e =
    let make : Option ℕ → Option ℕ → Option ℕ → Option ℕ
    → TimeFields = λ hour minute second hundredths. record {
      hour = hour;
      minute = minute;
      second = second;
      hundredths = hundredths;
    } in
    let parts = four_ok (field_of 0 23 h) (field_of 0 59 m) (field_of 0 59 s)
    (field_of 0 0 u) make p e in
    let is = parts.1.1.1.1 in
    let hour = field_takes 0 23 h _ is.0 in
    let minute = field_takes 0 59 m _ is.1.0 in
    let second = field_takes 0 59 s _ is.1.1.0 in
    let hundredths = field_takes 0 0 u _ is.1.1.1.0 in
    rw (← is.1.1.1.1) (
      record {
        hour = hour.0;
        minute = minute.0;
        second = second.0;
        hundredths = hundredths.0;
      },
      rw (← hour.1, ← minute.1, ← second.1, ← hundredths.1) refl,
    )

time_len : (bytes : List ℕ) (p : TimeFields) → time_of bytes ≡ Ok p → length bytes ≡ 4
unfolding time_of
time_len bytes p e = (guard_ok (length bytes) 4 _ _ p e).0

-- the bytes that a time was read from spell it
pub time_takes : (bytes : List ℕ) (p : TimeFields) → time_of bytes ≡ Ok p → IsTimeFields p
    × (bytes ≡ time_bytes p)
time_takes bytes p e =
    at_four (λ l. time_of l ≡ Ok p → IsTimeFields p × (l ≡ time_bytes p)) bytes (time_len bytes p e)
    (λ h m s u g. time_parts_take h m s u p g) e

pub time_again : (p : TimeFields) → IsTimeFields p → time_of (time_bytes p) ≡ Ok p
unfolding time_of
time_again p h =
    rw (
      field_again 0 23 p.hour (omega arith) h.hour,
      field_again 0 59 p.minute (omega arith) h.minute,
      field_again 0 59 p.second (omega arith) h.second,
      field_again 0 0 p.hundredths (omega arith) h.hundredths,
    ) refl

is_deviation_within : (z : ℤ) → is_deviation z ≡ true → (negsuc 719 ≤ℤ z) × (z ≤ℤ pos 840)
is_deviation_within (pos n) e = grind (arith, nat_tests, ints)
is_deviation_within (negsuc n) e = grind (arith, nat_tests, ints)

within_is_deviation : (z : ℤ) → (negsuc 719 ≤ℤ z) × (z ≤ℤ pos 840) → is_deviation z ≡ true
within_is_deviation (pos n) h = grind (arith, nat_tests, ints)
within_is_deviation (negsuc n) h = grind (arith, nat_tests, ints)

low_signed : (n : ℕ) → n < 2 ^ 15 → cast_signed w16 n ≡ pos n
low_signed n h = grind (arith, nat_tests)

high_signed : (n : ℕ) → 2 ^ 15 ≤ n → cast_signed w16 n ≡ negsuc (2 ^ 16 - suc n)
high_signed n h = grind (arith, nat_tests)

signed_back : (n : ℕ) → n < 2 ^ 16 → cast_unsigned w16 (cast_signed w16 n) ≡ n
signed_back n h = elim (cases_lt n (2 ^ 15)) [
  | inl lt ↦ rw (low_signed n lt) refl
  | inr le ↦ rw (high_signed n le) (omega arith)
]

not_specified : (n : ℕ) → deviation_of n ≡ Ok None → n ≡ 0x8000
not_specified n e = grind (arith, nat_tests)

specified : (n : ℕ) (z : ℤ) → deviation_of n ≡ Ok (Some z)
    → (is_deviation (cast_signed w16 n) ≡ true) × (cast_signed w16 n ≡ z)
specified n z e = grind (arith, nat_tests)

deviation_takes : (a b : ℕ) (f : Option ℤ) → a < 256 → b < 256 → deviation_of (a * 256 + b) ≡ Ok f
    → IsDeviationWithin f × (a ∷ b ∷ [] ≡ deviation_bytes f)
deviation_takes a b None h k e =
    let all = not_specified (a * 256 + b) e in
    let high : a ≡ 0x80 = omega arith in
    let low : b ≡ 0 = omega arith in
    (tt, rw (high, low) refl)
deviation_takes a b (Some z) h k e =
    let is = specified (a * 256 + b) z e in
    let back = sym (ap (cast_unsigned w16) is.1) ∙ signed_back (a * 256 + b) (omega arith) in (
      is_deviation_within z (ap is_deviation (sym is.1) ∙ is.0),
      sym (be_bytes_2 (a ∷ b ∷ []) (cast_unsigned w16 z) refl (two_bytes a b h k) back),
    )

deviation_bits : (z : ℤ) → (negsuc 719 ≤ℤ z) × (z ≤ℤ pos 840) → (cast_unsigned w16 z < 2 ^ 16)
    × ((cast_unsigned w16 z ≢ 0x8000) × (cast_signed w16 (cast_unsigned w16 z) ≡ z))
deviation_bits (pos n) h =
    let small : n ≤ 840 = grind (arith, nat_tests, ints) in
    (omega arith, (λ e. omega arith, low_signed n (omega arith)))
deviation_bits (negsuc n) h =
    let small : n ≤ 719 = grind (arith, nat_tests, ints) in
    let same : 2 ^ 16 - suc (2 ^ 16 - suc n) ≡ n = omega arith in
    (omega arith, (λ e. omega arith, high_signed (2 ^ 16 - suc n) (omega arith) ∙ ap negsuc same))

specified_again : (n : ℕ) (z : ℤ) → n ≢ 0x8000 → cast_signed w16 n ≡ z → is_deviation z ≡ true
    → deviation_of n ≡ Ok (Some z)
specified_again n z h e k = rw e (grind (arith, nat_tests))

deviation_again : (f : Option ℤ) → IsDeviationWithin f
    → deviation_of (from_be_bytes w16 (deviation_bytes f)) ≡ Ok f
deviation_again None h = refl
deviation_again (Some z) h =
    let bits = deviation_bits z h in
    ap deviation_of (from_be_bytes-to_be_bytes_2 (cast_unsigned w16 z) bits.0)
    ∙ specified_again (cast_unsigned w16 z) z bits.1.0 bits.1.1 (within_is_deviation z h)

four_joined : (a b c d e f : List ℕ) (l : ℕ) → a ≡ b → c ≡ d → e ≡ f → a ++ c ++ e ++ l ∷ [] ≡ b
    ++ d ++ f ++ l ∷ []
four_joined a b c d e f l h i j = rw (h, i, j) refl

date_time_parts_take : (a b c d e f g h i j k l : ℕ) (p : DateTimeFields)
    → IsBytes (a ∷ b ∷ c ∷ d ∷ e ∷ f ∷ g ∷ h ∷ i ∷ j ∷ k ∷ l ∷ [])
    → date_time_of (a ∷ b ∷ c ∷ d ∷ e ∷ f ∷ g ∷ h ∷ i ∷ j ∷ k ∷ l ∷ []) ≡ Ok p → IsDateTimeFields p
    × (a ∷ b ∷ c ∷ d ∷ e ∷ f ∷ g ∷ h ∷ i ∷ j ∷ k ∷ l ∷ [] ≡ date_time_bytes p)
unfolding date_time_of
date_time_parts_take a b c d e f g h i j k l p fits q =
    let make : DateFields → TimeFields → Option ℤ
    → DateTimeFields = λ date time deviation. record {
      date = date;
      time = time;
      deviation = deviation;
      status = l;
    } in
    let parts = three_ok (date_of (a ∷ b ∷ c ∷ d ∷ e ∷ [])) (time_of (f ∷ g ∷ h ∷ i ∷ []))
    (deviation_of (j * 256 + k)) make p q in
    let date = date_parts_take a b c d e _ (fits 0) (fits 1) parts.1.1.1.0 in
    let time = time_parts_take f g h i _ parts.1.1.1.1.0 in
    let deviation = deviation_takes j k _ (fits 9) (fits 10) parts.1.1.1.1.1.0 in
    rw (← parts.1.1.1.1.1.1) (
      record {
        date = date.0;
        time = time.0;
        deviation = deviation.0;
        status = fits 11;
      },
      four_joined _ _ _ _ _ _ _ date.1 time.1 deviation.1,
    )

date_time_len : (bytes : List ℕ) (p : DateTimeFields) → date_time_of bytes ≡ Ok p
    → length bytes ≡ 12
unfolding date_time_of
date_time_len bytes p e = (guard_ok (length bytes) 12 _ _ p e).0

-- the bytes that a date-time was read from spell it
pub date_time_takes : (bytes : List ℕ) (p : DateTimeFields) → IsBytes bytes → date_time_of bytes
    ≡ Ok p → IsDateTimeFields p × (bytes ≡ date_time_bytes p)
date_time_takes bytes p fits q =
    at_twelve (λ l. IsBytes l → date_time_of l ≡ Ok p → IsDateTimeFields p
    × (l ≡ date_time_bytes p)) bytes (date_time_len bytes p q)
    (λ a b c d e f g h i j k l m n. date_time_parts_take a b c d e f g h i j k l p m n) fits q

-- the parts of a date-time's bytes
date_time_again_parts : (year : Option ℕ) (month : Option ℕ) (day : DayOfMonth) (weekday : Option ℕ)
    (time : TimeFields) (deviation : Option ℤ) (status : ℕ)
    → IsDateTimeFields (record {
      date = record {
        year = year;
        month = month;
        day = day;
        weekday = weekday;
      };
      time = time;
      deviation = deviation;
      status = status;
    })
    → date_time_of (date_time_bytes (record {
      date = record {
        year = year;
        month = month;
        day = day;
        weekday = weekday;
      };
      time = time;
      deviation = deviation;
      status = status;
    }))
    ≡ Ok (record {
      date = record { year = year; month = month; day = day; weekday = weekday };
      time = time;
      deviation = deviation;
      status = status;
    })
unfolding date_time_of
date_time_again_parts None month day weekday time None status h =
    rw (
      date_again (record { year = None; month = month; day = day; weekday = weekday }) h.date,
      time_again time h.time,
    ) refl
date_time_again_parts None month day weekday time (Some z) status h =
    rw (
      date_again (record { year = None; month = month; day = day; weekday = weekday }) h.date,
      time_again time h.time,
      deviation_again (Some z) h.deviation,
    ) refl
date_time_again_parts (Some y) month day weekday time None status h =
    rw (
      date_again (record { year = Some y; month = month; day = day; weekday = weekday }) h.date,
      time_again time h.time,
    ) refl
date_time_again_parts (Some y) month day weekday time (Some z) status h =
    rw (
      date_again (record { year = Some y; month = month; day = day; weekday = weekday }) h.date,
      time_again time h.time,
      deviation_again (Some z) h.deviation,
    ) refl

-- the bytes of a date-time read as that date-time
pub date_time_again : (p : DateTimeFields) → IsDateTimeFields p → date_time_of (date_time_bytes p)
    ≡ Ok p
date_time_again p h =
    date_time_again_parts p.date.year p.date.month p.date.day p.date.weekday p.time
    p.deviation p.status h
