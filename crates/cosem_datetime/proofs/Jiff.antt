-- jiff's day counts are those of the definitions.
use Rattle.std.proofs.Common.{◌≡◌, ℕ, zero, suc, ◌+◌, ◌-◌, ◌<◌, ◌≤◌, refl, ◌∙◌, arith, ℤ, pos, negsuc, ◌+ℤ◌, unsigned_abs, to_z, of_z, w8, w16, ◌^◌, true}
use Rattle.std.proofs.lemmas.Bool.Decides.{nat_tests}
use mir.Val.{hbits}
use Rattle.jiff_core.specs.declared.civil.date.Date.{Date}
use Rattle.jiff_core.specs.Date.{epoch_day, weekday_of, IsYmd}
use Rattle.jiff_core.proofs.DateLemmas.{civil}
use Rattle.cosem_datetime.specs.declared.calendar.CivilDate.{CivilDate}
use Rattle.cosem_datetime.specs.Calendar.{is_date, days_of_years, day_count, first_day_of_2000, date_of_day, weekday}
use Rattle.cosem_datetime.proofs.Days.{IsDate, count_parts, months_same, years_more, is_day, date_from, date_true}
use Rattle.jiff_core.specs.Calendar.{day_count as jiff_count, IsCivilDate}
use Rattle.jiff_core.proofs.CalendarLemmas.{day_count-next_year, day_count-day_of_year, day_count-lt_year, day_count-end, days_from_civil-day_count, weekday_number-parts}
use Rattle.jiff_core.proofs.MarchLemmas.{day_count-early}
use Rattle.jiff_core.proofs.SignedLemmas.{signed_arith, back_small}

no_years : days_of_years 0 ≡ 0
unfolding days_of_years
no_years = refl

-- jiff counts from 1 January of the year -10000
jiff_year : (y : ℕ) → jiff_count (pos y) 1 1 ≡ days_of_years y + 3_652_425
jiff_year zero = omega (
  arith,
  no_years,
  day_count-early (pos 0) 9999 1 1 refl (omega arith)
      (omega arith) (omega arith),
)
jiff_year (suc y) =
    omega (
      arith,
      jiff_year y,
      years_more y,
      day_count-next_year (pos y) (pos (suc y))
          (omega (arith, signed_arith)) (omega (arith, signed_arith)),
    )

pub jiff_count_is : (y m d : ℕ) → 1 ≤ d → jiff_count (pos y) m d
    ≡ day_count (record { year = y; month = m; day = d }) + 3_652_425
jiff_count_is y m d h =
    omega (
      arith,
      jiff_year y,
      day_count-day_of_year (pos y) m d h,
      months_same y (m - 1),
      count_parts (record { year = y; month = m; day = d }),
    )

pub first_day_is : first_day_of_2000 ≡ 730_485
unfolding first_day_of_2000
first_day_is = omega (
  arith,
  jiff_count_is 2000 1 1 (omega arith),
  day_count-early (pos 2000) 11999 1 1 refl (omega arith) (omega arith) (omega arith),
)

-- a date of jiff as a day of the definitions
pub from_jiff : (y : ℤ) (m d n : ℕ) → IsCivilDate y m d → jiff_count y m d ≡ n + 3_652_425 → (k : ℕ)
    × ((y ≡ pos k) × ((k ≤ 9999) × (record { year = k; month = m; day = d } ≡ date_of_day n)))
from_jiff (pos k) m d n h e =
    let c : CivilDate = record { year = k; month = m; day = d } in
    let date : IsDate c = record { month = h.1; day = h.2 } in
    let count : day_count c ≡ n = omega (arith, jiff_count_is k m d h.2.0) in (
      k,
      (
        refl,
        (
          omega (arith, signed_arith, h.0),
          (is_day n c).0 (record { date = date_from c date; count = count }),
        ),
      ),
    )
from_jiff (negsuc k) m d n h e =
    absurd (omega (
      arith,
      signed_arith,
      day_count-lt_year (negsuc k) m d (pos 0) 1 1 h (omega arith)
          (search arith),
      jiff_year 0,
      no_years,
    ))

-- the date n days after 1 January of the year 0
pub date_from_jiff : (date made : Date) (n : ℕ) → date ≡ made → epoch_day made +ℤ pos 4_371_587
    ≡ pos (n + 3_652_059) → (k : ℕ) × ((to_z w16 (of_z w16 date.year) ≡ pos k)
    × ((k ≤ 9999) × (record { year = k; month = date.month; day = date.day } ≡ date_of_day n)))
date_from_jiff date made n same e =
    let day : epoch_day date +ℤ pos 4_371_587 ≡ pos (n + 3_652_059) = rw same e in
    let count : jiff_count date.year date.month date.day ≡ n + 3_652_425 =
    omega (arith, signed_arith, days_from_civil-day_count date.year date.month date.day) in
    let found = from_jiff date.year date.month date.day n (civil date) count in
    let fits : unsigned_abs date.year < 2 ^ hbits w16 = rw found.1.0 (omega (arith, found.1.1.0)) in
    (found.0, (back_small w16 date.year fits ∙ found.1.0, found.1.1))

-- jiff's weekday of that date, which counts from 0 for Monday
pub weekday_from_jiff : (date made : Date) (n : ℕ) → date ≡ made → epoch_day made +ℤ pos 4_371_587
    ≡ pos (n + 3_652_059) → weekday_of date + 1 ≡ weekday n
weekday_from_jiff date made n same e =
    let day : epoch_day date +ℤ pos 4_371_587 ≡ pos (n + 3_652_059) = rw same e in
    omega (arith, signed_arith, day, weekday_number-parts (epoch_day date))

-- a number of 1 to 7 is the same as an unsigned one
pub small_weekday : (z : ℤ) (n : ℕ) → z ≡ pos (n + 1) → n < 7 → unsigned_abs (to_z w8 (of_z w8 z))
    ≡ n + 1
small_weekday z n e h =
    let fits : unsigned_abs z < 2 ^ hbits w8 = rw e (omega arith) in
    rw (back_small w8 z fits, e) refl

small_year : (n : ℕ) → n ≤ 9999 → to_z w16 n ≡ pos n
small_year n h = grind (arith, nat_tests)

small_part : (n : ℕ) → n ≤ 31 → to_z w8 n ≡ pos n
small_part n h = grind (arith, nat_tests)

civil_at : (y y₂ : ℤ) (m m₂ d d₂ : ℕ) → y ≡ y₂ → m ≡ m₂ → d ≡ d₂ → IsCivilDate y m d
    → IsCivilDate y₂ m₂ d₂
civil_at y y₂ m m₂ d d₂ e f g h = rw (← e, ← f, ← g) h

-- a date that jiff made is in the calendar, and its day is jiff's
pub to_jiff : (date made : Date) (c : CivilDate) (days : ℕ) → c.year ≤ 9999 → c.month ≤ 12
    → c.day ≤ 31 → IsYmd (to_z w16 c.year) (to_z w8 c.month) (to_z w8 c.day) date → made ≡ date
    → epoch_day made +ℤ pos 4_371_587 ≡ pos days → (is_date c ≡ true)
    × (days ≡ day_count c + 3_652_059)
to_jiff date made c days h k l ymd same e =
    let year : date.year ≡ pos c.year = ymd.0 ∙ small_year c.year h in
    let month' : pos date.month ≡ pos c.month = ymd.1 ∙ small_part c.month (omega arith) in
    let day' : pos date.day ≡ pos c.day = ymd.2 ∙ small_part c.day l in
    let month : date.month ≡ c.month = cc in
    let day : date.day ≡ c.day = cc in
    let is : IsCivilDate (pos c.year) c.month c.day =
    civil_at _ _ _ _ _ _ year month day (civil date) in
    let found : IsDate c = record { month = is.1; day = is.2 } in
    let there : epoch_day date +ℤ pos 4_371_587 ≡ pos days = rw (← same) e in
    let count : jiff_count (pos c.year) c.month c.day ≡ days
    + 366 = rw (← year, ← month, ← day) (omega (
      arith,
      signed_arith,
      days_from_civil-day_count date.year date.month date.day,
    )) in
    (date_true c found, omega (arith, jiff_count_is c.year c.month c.day is.2.0))

-- the days before 1 January of the year 10000
pub days_to_10000 : days_of_years 10000 ≡ 3_652_425
days_to_10000 = omega (arith, jiff_year 10000, day_count-end)
