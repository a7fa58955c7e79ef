-- Each day of the calendar has one date, and jiff's day counts are those of the definitions.
use Rattle.std.proofs.Common.{◌≡◌, ℕ, zero, suc, ◌+◌, ◌-◌, ◌<◌, ◌≤◌, inl, inr, Bool, true, false, refl, sym, ap, ◌∙◌, arith, cond, pos}
use Rattle.std.specs.Prelude.{IsTrue, nat_lt}
use Rattle.std.proofs.lemmas.Bool.{cases_order}
use Rattle.std.proofs.lemmas.Bool.Decides.{nat_tests}
use Rattle.cosem_datetime.specs.declared.calendar.CivilDate.{CivilDate}
use Rattle.cosem_datetime.specs.Calendar.{year_length, month_length, days_of_years, days_of_months, is_date, day_count, IsDay, next_date, date_of_day}
use Rattle.jiff_core.specs.Calendar as jiff
use Rattle.jiff_core.proofs.CalendarLemmas.{days_of_months_all}

-- the parts of a date that the calendar has
pub record IsDate (c : CivilDate) : Type 0 where
  pub month : (1 ≤ c.month) × (c.month ≤ 12)
  pub day : (1 ≤ c.day) × (c.day ≤ month_length c.year c.month)

pub date_parts : (c : CivilDate) → IsTrue (is_date c) → IsDate c
date_parts c h = record { month = grind (arith, nat_tests); day = grind (arith, nat_tests) }

pub date_from : (c : CivilDate) → IsDate c → IsTrue (is_date c)
date_from c h = grind (arith, nat_tests, h.month, h.day)

pub month_bounds : (y m : ℕ) → (28 ≤ month_length y m) × (month_length y m ≤ 31)
month_bounds y m = grind arith

pub year_bounds : (y : ℕ) → 365 ≤ year_length y
year_bounds y = grind arith

-- the days of n months are those of n - 1 months and of the month n
pub months_more : (y m : ℕ) → 1 ≤ m → days_of_months y m ≡ days_of_months y (m - 1)
    + month_length y m
unfolding days_of_months
months_more y zero h = absurd (omega arith)
months_more y (suc m) h = let back : suc m - 1 ≡ m = omega arith in rw back

-- a year is its twelve months
pub months_same : (y m : ℕ) → days_of_months y m ≡ jiff.days_of_months (pos y) m
unfolding days_of_months jiff.days_of_months
months_same y zero = refl
months_same y (suc m) = ap (λ n. n + month_length y (suc m)) (months_same y m)

pub months_all : (y : ℕ) → days_of_months y 12 ≡ year_length y
months_all y = months_same y 12 ∙ days_of_months_all (pos y)

pub months_none : (y : ℕ) → days_of_months y 0 ≡ 0
unfolding days_of_months
months_none y = refl

pub years_more : (y : ℕ) → days_of_years (suc y) ≡ days_of_years y + year_length y
unfolding days_of_years
years_more y = refl

pub count_parts : (c : CivilDate) → day_count c ≡ days_of_years c.year
    + days_of_months c.year (c.month - 1) + (c.day - 1)
unfolding day_count
count_parts c = refl

-- the day after a date of the calendar is a date of the calendar
pub next_is_date : (c : CivilDate) → IsDate c → IsDate (next_date c)
next_is_date c h =
    grind (
      arith,
      nat_tests,
      h.month,
      h.day,
      month_bounds c.year c.month,
      month_bounds c.year (c.month + 1),
      month_bounds (c.year + 1) 1,
    )

-- what holds of both values of a choice
pub at_if : {A : Type 0} (P : A → Type 0) (b : Bool) (x y : A) → (b ≡ true → P x)
    → (b ≡ false → P y) → P (cond b x y)
at_if P true x y f g = f refl
at_if P false x y f g = g refl

below : (a b : ℕ) → nat_lt a b ≡ true → a < b
below a b h = grind (arith, nat_tests)

above : (a b : ℕ) → nat_lt a b ≡ false → b ≤ a
above a b h = grind (arith, nat_tests)

next_day_count : (y m d : ℕ) → 1 ≤ d → day_count (record { year = y; month = m; day = d + 1 })
    ≡ suc (day_count (record { year = y; month = m; day = d }))
unfolding day_count
next_day_count y m d h = omega arith

next_month_count : (y m d : ℕ) → 1 ≤ m → 1 ≤ d → d ≡ month_length y m
    → day_count (record { year = y; month = m + 1; day = 1 })
    ≡ suc (day_count (record { year = y; month = m; day = d }))
unfolding day_count
next_month_count y m d h k e =
    let back : m + 1 - 1 ≡ m = omega arith in
    rw back (omega (arith, months_more y m h))

next_year_count : (y d : ℕ) → 1 ≤ d → d ≡ month_length y 12
    → day_count (record { year = y + 1; month = 1; day = 1 })
    ≡ suc (day_count (record { year = y; month = 12; day = d }))
unfolding day_count
next_year_count y d k e =
    let next : y + 1 ≡ suc y = omega arith in
    rw next (omega (
      arith,
      months_none (suc y),
      years_more y,
      months_all y,
      months_more y 12 (omega arith),
    ))

-- the day after is one day later
pub next_count : (c : CivilDate) → IsDate c → day_count (next_date c) ≡ suc (day_count c)
next_count c h =
    at_if (λ n. day_count n ≡ suc (day_count c)) (nat_lt c.day (month_length c.year c.month)) _ _
    (λ lt. next_day_count c.year c.month c.day h.day.0)
    (λ ge. let long : month_length c.year c.month ≤ c.day = above _ _ ge in let last : c.day
    ≡ month_length c.year c.month = omega (arith, h.day.1) in
    at_if (λ n. day_count n ≡ suc (day_count c)) (nat_lt c.month 12) _ _
    (λ lt. next_month_count c.year c.month c.day h.month.0 h.day.0 last)
    (λ ge'. let past : 12 ≤ c.month = above _ _ ge' in let december : c.month
    ≡ 12 = omega (arith, h.month.1) in
    let last' : c.day ≡ month_length c.year 12 = last ∙ ap (month_length c.year) december in
    next_year_count c.year c.day h.day.0 last'
    ∙ ap (λ m. suc (day_count (record { year = c.year; month = m; day = c.day })))
    (sym december)))

-- day n has the date that `date_of_day` gives
pub date_of_day_is : (n : ℕ) → IsDate (date_of_day n) × (day_count (date_of_day n) ≡ n)
unfolding date_of_day day_count days_of_years days_of_months
date_of_day_is zero = (record { month = search arith; day = search arith }, refl)
date_of_day_is (suc n) =
    let before = date_of_day_is n in
    (next_is_date (date_of_day n) before.0, next_count (date_of_day n) before.0 ∙ ap suc before.1)

years_add : (y k : ℕ) → days_of_years y ≤ days_of_years (k + y)
years_add y zero = let same : 0 + y ≡ y = omega arith in rw same (omega arith)
years_add y (suc k) =
    let next : suc k + y ≡ suc (k + y) = omega arith in
    rw next (omega (arith, years_add y k, years_more (k + y)))

months_add : (y m k : ℕ) → days_of_months y m ≤ days_of_months y (k + m)
months_add y m zero = let same : 0 + m ≡ m = omega arith in rw same (omega arith)
months_add y m (suc k) =
    let back : suc k + m - 1 ≡ k + m = omega arith in
    omega (arith, months_add y m k, rw back at (months_more y (suc k + m) (omega arith)))

-- a date is before the end of its month
month_end : (c : CivilDate) → IsDate c → day_count c < days_of_years c.year
    + days_of_months c.year c.month
month_end c h = omega (arith, count_parts c, months_more c.year c.month h.month.0, h.day.0, h.day.1)

months_to : (y m later : ℕ) → m ≤ later → days_of_months y m ≤ days_of_months y later
months_to y m later h =
    let same : later - m + m ≡ later = omega arith in
    rw same at (months_add y m (later - m))

-- later years have more days before them
pub years_to : (y later : ℕ) → y ≤ later → days_of_years y ≤ days_of_years later
years_to y later h =
    let same : later - y + y ≡ later = omega arith in
    rw same at (years_add y (later - y))

-- a date is before the end of its year
pub year_end : (c : CivilDate) → IsDate c → day_count c < days_of_years (suc c.year)
year_end c h =
    omega (
      arith,
      month_end c h,
      months_to c.year c.month 12 h.month.1,
      months_all c.year,
      years_more c.year,
    )

-- a date of a later year is later
year_before : (a b : CivilDate) → IsDate a → IsDate b → a.year < b.year → day_count a < day_count b
year_before a b h k lt =
    omega (arith, year_end a h, years_to (suc a.year) b.year (omega arith), count_parts b)

-- a date of a later month of the same year is later
month_before : (a b : CivilDate) → IsDate a → IsDate b → a.year ≡ b.year → a.month < b.month
    → day_count a < day_count b
month_before a b h k e lt =
    let later = months_to b.year a.month (b.month - 1) (omega arith) in
    let end : day_count a < days_of_years b.year + days_of_months b.year a.month =
    rw (← e) (month_end a h) in
    omega (arith, count_parts b)

same_parts : (y m d y₂ m₂ d₂ : ℕ) → y ≡ y₂ → m ≡ m₂ → d ≡ d₂
    → ◌≡◌ {A = CivilDate} (record { year = y; month = m; day = d })
    (record { year = y₂; month = m₂; day = d₂ })
same_parts y m d y₂ m₂ d₂ e f g = rw (e, f, g)

-- dates with the same count are the same
same_date : (a b : CivilDate) → IsDate a → IsDate b → day_count a ≡ day_count b → a ≡ b
same_date a b h k e =
    elim (cases_order a.year b.year) [
      | inr (inl lt) ↦ absurd (omega (arith, year_before a b h k lt))
      | inr (inr gt) ↦ absurd (omega (arith, year_before b a k h gt))
      | inl year ↦ elim (cases_order a.month b.month) [
        | inr (inl lt) ↦ absurd (omega (arith, month_before a b h k year lt))
        | inr (inr gt) ↦ absurd (omega (arith, month_before b a k h (sym year) gt))
        | inl month ↦
            let there : day_count a ≡ days_of_years b.year + days_of_months b.year (b.month - 1)
            + (a.day - 1) = rw (← year, ← month) (count_parts a) in
            let day : a.day ≡ b.day = omega (arith, count_parts b, h.day.0, k.day.0) in
            same_parts _ _ _ _ _ _ year month day
      ]
    ]

-- a date is day n exactly if it is the date of day n
pub is_day : (n : ℕ) (c : CivilDate) → (IsDay n c → c ≡ date_of_day n)
    × (c ≡ date_of_day n → IsDay n c)
is_day n c =
    let here = date_of_day_is n in (
      λ h. same_date c (date_of_day n) (date_parts c h.date) here.0 (h.count ∙ sym here.1),
      λ e. rw e (record { date = date_from (date_of_day n) here.0; count = here.1 }),
    )

pub date_true : (c : CivilDate) → IsDate c → is_date c ≡ true
date_true c h = grind (arith, nat_tests, h.month, h.day)
