-- Which fault reading returns.
use Rattle.std.proofs.Common.{◌≡◌, ◌≢◌, ℕ, ◌⊎◌, inl, inr, Bool, true, false, cond, List, length, Result, Ok, Err, refl, ◌∙◌, arith}
use Rattle.std.specs.Prelude.{◌==◌, IsTrue, IfOk, slice_index, slice_range}
use Rattle.std.specs.Int.{w16, from_be_bytes}
use Rattle.std.proofs.lemmas.Bool.Decides.{nat_tests}
use Rattle.cosem_datetime.specs.declared.fault.PatternFault.{PatternFault}
use Rattle.cosem_datetime.specs.declared.fault.PatternFault.TheVariants.{Length, Range, SeasonMonth}
use Rattle.cosem_datetime.proofs.Spelled.{equal, unequal, at_twelve}
use Rattle.cosem_datetime.specs.Reading.{◌>>=◌, field_of, is_season, month_of, day_of, deviation_of, date_of, time_of, date_time_of}

-- what holds of an Ok holds of the result
pub if_ok : {A : Type 0} (r : Result A PatternFault) (P : A → Type 0) → ((x : A) → r ≡ Ok x → P x)
    → IfOk r P
if_ok (Ok x) P h = h x refl
if_ok (Err f) P h = tt

three_err : {A B C D : Type 0} (r : Result A PatternFault) (s : Result B PatternFault)
    (t : Result C PatternFault) (make : A → B → C → D) (f : PatternFault)
    → (r >>= (λ a. s >>= (λ b. t >>= (λ c. Ok (make a b c))))) ≡ Err f → (r ≡ Err f)
    ⊎ ((s ≡ Err f) ⊎ (t ≡ Err f))
three_err (Ok a) (Ok b) (Ok c) make f e = absurd cc
three_err (Err g) s t make f e = inl cc
three_err (Ok a) (Err g) t make f e = inr (inl cc)
three_err (Ok a) (Ok b) (Err g) make f e = inr (inr cc)

four_err : {A B C D E : Type 0} (r : Result A PatternFault) (s : Result B PatternFault)
    (t : Result C PatternFault) (u : Result D PatternFault) (make : A → B → C → D
    → E) (f : PatternFault) → (r >>= (λ a. s >>= (λ b. t
    >>= (λ c. u >>= (λ d. Ok (make a b c d)))))) ≡ Err f → (r ≡ Err f)
    ⊎ ((s ≡ Err f) ⊎ ((t ≡ Err f) ⊎ (u ≡ Err f)))
four_err (Ok a) (Ok b) (Ok c) (Ok d) make f e = absurd cc
four_err (Err g) s t u make f e = inl cc
four_err (Ok a) (Err g) t u make f e = inr (inl cc)
four_err (Ok a) (Ok b) (Err g) u make f e = inr (inr (inl cc))
four_err (Ok a) (Ok b) (Ok c) (Err g) make f e = inr (inr (inr cc))

chosen : {A : Type 0} (b : Bool) (x y z : A) → cond b x y ≡ z → ((b ≡ true) × (x ≡ z))
    ⊎ ((b ≡ false) × (y ≡ z))
chosen true x y z e = inl (refl, e)
chosen false x y z e = inr (refl, e)

-- the length is tested first
guard_err : {A : Type 0} (m n : ℕ) (r : Result A PatternFault) (f : PatternFault)
    → cond (m == n) r (Err Length) ≡ Err f → ((m ≢ n) × (f ≡ Length)) ⊎ ((m ≡ n) × (r ≡ Err f))
guard_err m n r f e =
    elim (chosen (m == n) r (Err Length) (Err f) e) [
      | inl h ↦ inr (equal m n h.0, h.1)
      | inr h ↦ inl (unequal m n h.0, cc)
    ]

guard_other : {A : Type 0} (m n : ℕ) (r : Result A PatternFault) → m ≢ n
    → cond (m == n) r (Err Length) ≡ Err Length
guard_other m n r h = grind (arith, nat_tests)

guard_same : {A : Type 0} (m n : ℕ) (r : Result A PatternFault) → m ≡ n
    → cond (m == n) r (Err Length) ≡ r
guard_same m n r h = grind (arith, nat_tests)

field_fault : (low high b : ℕ) (f : PatternFault) → field_of low high b ≡ Err f → f ≡ Range
field_fault low high b f e = grind (arith, nat_tests)

day_fault : (b : ℕ) (f : PatternFault) → day_of b ≡ Err f → f ≡ Range
day_fault b f e = grind (arith, nat_tests)

month_fault : (b : ℕ) (f : PatternFault) → month_of b ≡ Err f
    → ((is_season b ≡ true) × (f ≡ SeasonMonth)) ⊎ ((is_season b ≡ false) × (f ≡ Range))
month_fault b f e =
    elim (chosen (is_season b) (Err SeasonMonth) (field_of 1 12 b) (Err f) e) [
      | inl h ↦ inl (h.0, cc)
      | inr h ↦ inr (h.0, field_fault 1 12 b f h.1)
    ]

month_season : (b : ℕ) → is_season b ≡ true → month_of b ≡ Err SeasonMonth
month_season b h = grind (arith, nat_tests)

deviation_fault : (n : ℕ) (f : PatternFault) → deviation_of n ≡ Err f → f ≡ Range
deviation_fault n f e = grind (arith, nat_tests)

first_err : {A B : Type 0} (r : Result A PatternFault) (then : A → Result B PatternFault)
    (f : PatternFault) → r ≡ Err f → r >>= then ≡ Err f
first_err (Ok x) then f e = absurd cc
first_err (Err g) then f e = cc

date_faults : (bytes : List ℕ) (f : PatternFault) → date_of bytes ≡ Err f
    → ((length bytes ≢ 5) × (f ≡ Length)) ⊎ ((length bytes ≡ 5)
    × (((is_season (slice_index bytes 2) ≡ true) × (f ≡ SeasonMonth)) ⊎ (f ≡ Range)))
unfolding date_of
date_faults bytes f e =
    elim (guard_err (length bytes) 5 _ f e) [
      | inl h ↦ inl h
      | inr h ↦ inr (
        h.0,
        elim (three_err (month_of (slice_index bytes 2)) (day_of (slice_index bytes 3))
            (field_of 1 7 (slice_index bytes 4)) _ f h.1) [
              | inl m ↦ elim (month_fault (slice_index bytes 2) f m)
                  [ inl k ↦ inl k | inr k ↦ inr k.1 ]
              | inr (inl d) ↦ inr (day_fault (slice_index bytes 3) f d)
              | inr (inr w) ↦ inr (field_fault 1 7 (slice_index bytes 4) f w)
            ],
      )
    ]

-- reading a date returns `Length` exactly if its length is wrong
pub date_length : (bytes : List ℕ) → (date_of bytes ≡ Err Length → length bytes ≢ 5)
    × (length bytes ≢ 5 → date_of bytes ≡ Err Length)
unfolding date_of
date_length bytes = (
  λ e. elim (date_faults bytes Length e) [
    | inl h ↦ h.0
    | inr (h, inl k) ↦ absurd cc
    | inr
        (h, inr k) ↦ absurd cc
  ],
  λ h. guard_other (length bytes) 5 _ h,
)

-- reading a date returns `SeasonMonth` exactly if its month is a change of daylight saving
pub date_season : (bytes : List ℕ) → (date_of bytes ≡ Err SeasonMonth → (length bytes ≡ 5)
    × IsTrue (is_season (slice_index bytes 2)))
    × ((length bytes ≡ 5) × IsTrue (is_season (slice_index bytes 2)) → date_of bytes
    ≡ Err SeasonMonth)
unfolding date_of
date_season bytes = (
  λ e. elim (date_faults bytes SeasonMonth e) [
    | inl h ↦ absurd cc
    | inr (h, inl k) ↦
        (h, grind (arith, nat_tests))
    | inr (h, inr k) ↦ absurd cc
  ],
  λ h. guard_same (length bytes) 5 _ h.0 ∙ first_err (month_of (slice_index bytes 2)) _ SeasonMonth
      (month_season (slice_index bytes 2) (grind (arith, nat_tests))),
)

time_faults : (bytes : List ℕ) (f : PatternFault) → time_of bytes ≡ Err f
    → ((length bytes ≢ 4) × (f ≡ Length)) ⊎ ((length bytes ≡ 4) × (f ≡ Range))
unfolding time_of
time_faults bytes f e =
    elim (guard_err (length bytes) 4 _ f e) [
      | inl h ↦ inl h
      | inr h ↦ inr (
        h.0,
        elim (four_err (field_of 0 23 (slice_index bytes 0)) (field_of 0 59 (slice_index bytes 1))
            (field_of 0 59 (slice_index bytes 2)) (field_of 0 0 (slice_index bytes 3)) _ f h.1) [
              | inl a ↦ field_fault 0 23 (slice_index bytes 0) f a
              | inr (inl a) ↦ field_fault 0 59 (slice_index bytes 1) f a
              | inr (inr (inl a)) ↦ field_fault 0 59 (slice_index bytes 2) f a
              | inr (inr (inr a)) ↦ field_fault 0 0 (slice_index bytes 3) f a
            ],
      )
    ]

-- reading a time returns `Length` exactly if its length is wrong, and otherwise only `Range`
pub time_length : (bytes : List ℕ) → (time_of bytes ≡ Err Length → length bytes ≢ 4)
    × (length bytes ≢ 4 → time_of bytes ≡ Err Length)
unfolding time_of
time_length bytes = (
  λ e. elim (time_faults bytes Length e) [ inl h ↦ h.0 | inr h ↦ absurd cc ],
  λ h. guard_other (length bytes) 4 _ h,
)

pub time_no_season : (bytes : List ℕ) → time_of bytes ≡ Err SeasonMonth → ⊥
time_no_season bytes e = elim (time_faults bytes SeasonMonth e)
    [ inl h ↦ absurd cc | inr h ↦ absurd cc ]

date_time_faults : (bytes : List ℕ) (f : PatternFault) → date_time_of bytes ≡ Err f
    → ((length bytes ≢ 12) × (f ≡ Length)) ⊎ ((length bytes ≡ 12)
    × ((date_of (slice_range bytes 0 5) ≡ Err f)
    ⊎ ((time_of (slice_range bytes 5 9) ≡ Err f) ⊎ (f ≡ Range))))
unfolding date_time_of
date_time_faults bytes f e =
    elim (guard_err (length bytes) 12 _ f e) [
      | inl h ↦ inl h
      | inr h ↦ inr (
        h.0,
        elim (three_err (date_of (slice_range bytes 0 5)) (time_of (slice_range bytes 5 9))
            (deviation_of (from_be_bytes w16 (slice_range bytes 9 11))) _ f h.1) [
              | inl a ↦ inl a
              | inr (inl a) ↦ inr (inl a)
              | inr (inr a) ↦ inr (inr (deviation_fault (from_be_bytes w16 (slice_range bytes 9 11))
                  f
                  a))
            ],
      )
    ]

-- the date and the time in a date-time have their lengths, and the date's month is the third byte
inner : (bytes : List ℕ) → length bytes ≡ 12 → (length (slice_range bytes 0 5) ≡ 5)
    × ((length (slice_range bytes 5 9) ≡ 4) × (slice_index (slice_range bytes 0 5) 2
    ≡ slice_index bytes 2))
inner bytes h =
    at_twelve (λ l. (length (slice_range l 0 5) ≡ 5)
    × ((length (slice_range l 5 9) ≡ 4) × (slice_index (slice_range l 0 5) 2
    ≡ slice_index l 2))) bytes h
    (λ a b c d e f g h i j k l. (refl, (refl, refl)))

-- reading a date-time returns `Length` exactly if its length is wrong
pub date_time_length : (bytes : List ℕ) → (date_time_of bytes ≡ Err Length → length bytes ≢ 12)
    × (length bytes ≢ 12 → date_time_of bytes ≡ Err Length)
unfolding date_time_of
date_time_length bytes = (
  λ e. elim (date_time_faults bytes Length e) [
    | inl h ↦ h.0
    | inr (h, inl k) ↦ absurd ((date_length (slice_range bytes 0 5)).0 k (inner bytes h).0)
    | inr (h, inr (inl k)) ↦ absurd ((time_length (slice_range bytes 5 9)).0 k (inner bytes h).1.0)
    | inr (h, inr (inr k)) ↦ absurd cc
  ],
  λ h. guard_other (length bytes) 12 _ h,
)

-- reading a date-time returns `SeasonMonth` exactly if its month is a change of daylight saving
pub date_time_season : (bytes : List ℕ) → (date_time_of bytes ≡ Err SeasonMonth
    → (length bytes ≡ 12) × IsTrue (is_season (slice_index bytes 2)))
    × ((length bytes ≡ 12) × IsTrue (is_season (slice_index bytes 2)) → date_time_of bytes
    ≡ Err SeasonMonth)
unfolding date_time_of
date_time_season bytes = (
  λ e. elim (date_time_faults bytes SeasonMonth e) [
    | inl h ↦ absurd cc
    | inr (h, inl k) ↦ (h, rw (inner bytes h).1.1 at ((date_season (slice_range bytes 0 5)).0 k).1)
    | inr (h, inr (inl k)) ↦ absurd (time_no_season (slice_range bytes 5 9) k)
    | inr (h, inr (inr k)) ↦ absurd cc
  ],
  λ h.
      let there = inner bytes h.0 in
      let season : IsTrue (is_season (slice_index (slice_range bytes 0 5) 2)) = rw there.1.1 h.1 in
      guard_same (length bytes) 12 _ h.0 ∙ first_err (date_of (slice_range bytes 0 5)) _ SeasonMonth
      ((date_season (slice_range bytes 0 5)).1 (there.0, season)),
)
