-- A moment from the parts of a date-time.
use Rattle.std.proofs.Common.{◌≡◌, ℕ, ◌+◌, ◌*◌, ◌<◌, ◌≤◌, ◌^◌, Bool, true, false, cond, Option, Some, None, refl, ap, ◌∙◌, arith, ℤ, pos, negsuc, ◌+ℤ◌, ◌-ℤ◌, ◌*ℤ◌, ◌≤ℤ◌, to_z, of_z, to_z-of_z, FitsSigned, w16, w64}
use Rattle.std.specs.Prelude.{◌&&◌, unwrap_or}
use Rattle.std.proofs.lemmas.Bool.Decides.{nat_tests}
use Rattle.jiff_core.proofs.SignedLemmas.{signed_arith}
use Rattle.cosem_datetime.specs.declared.calendar.CivilDate.{CivilDate}
use Rattle.cosem_datetime.proofs.Days.{at_if, count_parts, years_to}
use Rattle.cosem_datetime.proofs.Jiff.{first_day_is, days_to_10000}
use Rattle.cosem_datetime.specs.Fields.{DateTimeFields, IsDeviationWithin}
use Rattle.cosem_datetime.specs.Calendar.{is_date, day_count, first_day_of_2000, weekday}
use Rattle.cosem_datetime.specs.Matching.{holds}
use Rattle.cosem_datetime.specs.Moment.{plain_date, second_of_day, is_right_date, in_u32, seconds_since, moment_of}

pub no_date : (f : DateTimeFields) → plain_date f.date ≡ None → moment_of f ≡ None
unfolding moment_of
no_date f e = rw e refl

pub no_time : (f : DateTimeFields) (c : CivilDate) → plain_date f.date ≡ Some c
    → second_of_day f.time ≡ None → moment_of f ≡ None
unfolding moment_of
no_time f c e h = rw (e, h) refl

pub all_given : (f : DateTimeFields) (c : CivilDate) (s : ℕ) → plain_date f.date ≡ Some c
    → second_of_day f.time ≡ Some s → moment_of f
    ≡ cond (is_right_date f.date c) (in_u32 (seconds_since c s f.deviation)) None
unfolding moment_of
all_given f c s e h = rw (e, h) refl

-- a choice without a value means that its test is false
none_means_false : (b : Bool) (n : ℕ) → cond b (Some n) None ≡ None → b ≡ false
none_means_false false n e = refl
none_means_false true n e = absurd cc

some_means_true : (b : Bool) (m n : ℕ) → cond b (Some m) None ≡ Some n → (b ≡ true) × (m ≡ n)
some_means_true true m n e = (refl, cc)
some_means_true false m n e = absurd cc

false_left : (a b : Bool) → a ≡ false → a && b ≡ false
false_left a b e = rw e refl

false_right : (a b : Bool) → b ≡ false → a && b ≡ false
false_right true b e = e
false_right false b e = refl

-- the calendar does not have the date
pub no_such_date : (f : DateTimeFields) (c : CivilDate) (s : ℕ) → plain_date f.date ≡ Some c
    → second_of_day f.time ≡ Some s → cond (is_date c) (Some (day_count c)) None ≡ None
    → moment_of f ≡ None
no_such_date f c s e h k =
    all_given f c s e h ∙ ap (λ b. cond b (in_u32 (seconds_since c s f.deviation)) None)
    (false_left _ _ (none_means_false (is_date c) (day_count c) k))

-- the weekday is not that of the date
pub other_weekday : (f : DateTimeFields) (c : CivilDate) (s n : ℕ) → plain_date f.date ≡ Some c
    → second_of_day f.time ≡ Some s → cond (is_date c) (Some (day_count c)) None ≡ Some n
    → holds f.date.weekday (weekday n) ≡ false → moment_of f ≡ None
other_weekday f c s n e h k w =
    let day = some_means_true (is_date c) (day_count c) n k in
    all_given f c s e h ∙ ap (λ b. cond b (in_u32 (seconds_since c s f.deviation)) None)
    (false_right _ _ (ap (λ d. holds f.date.weekday (weekday d)) day.1 ∙ w))

both_true : (a b : Bool) → a ≡ true → b ≡ true → a && b ≡ true
both_true a b e h = rw (e, h) refl

-- the date is right
pub right_date : (f : DateTimeFields) (c : CivilDate) (s n : ℕ) → plain_date f.date ≡ Some c
    → second_of_day f.time ≡ Some s → cond (is_date c) (Some (day_count c)) None ≡ Some n
    → holds f.date.weekday (weekday n) ≡ true → moment_of f
    ≡ in_u32 ((pos (86400 * n + s) -ℤ pos (86400 * first_day_of_2000)) +ℤ
    (pos 60 *ℤ unwrap_or f.deviation (pos 0)))
right_date f c s n e h k w =
    let day = some_means_true (is_date c) (day_count c) n k in
    let right = both_true (is_date c) (holds f.date.weekday (weekday (day_count c))) day.0
    (ap (λ d. holds f.date.weekday (weekday d)) day.1 ∙ w) in
    all_given f c s e h ∙ (ap (λ b. cond b (in_u32 (seconds_since c s f.deviation)) None) right
    ∙ ap (λ d. in_u32 ((pos (86400 * d + s) -ℤ pos (86400 * first_day_of_2000)) +ℤ
    (pos 60 *ℤ unwrap_or f.deviation (pos 0)))) day.1)

past_u32 : (z : ℤ) → pos (2 ^ 32) ≤ℤ z → in_u32 z ≡ None
past_u32 (pos n) h = let big : 2 ^ 32 ≤ n = omega (arith, signed_arith) in grind (arith, nat_tests)
past_u32 (negsuc n) h = absurd (omega (arith, signed_arith))

least_deviation : (d : Option ℤ) → IsDeviationWithin d → negsuc 719 ≤ℤ unwrap_or d (pos 0)
least_deviation None h = omega (arith, signed_arith)
least_deviation (Some d) h = h.0

late_seconds : (days s first : ℕ) (d : ℤ) → 3_652_425 ≤ days → first ≡ 730_485 → negsuc 719 ≤ℤ d
    → pos (2 ^ 32) ≤ℤ ((pos (86400 * days + s) -ℤ pos (86400 * first)) +ℤ (pos 60 *ℤ d))
late_seconds days s first d h k l = omega (arith, signed_arith)

-- a date after the year 9999 has no moment
pub too_late : (f : DateTimeFields) (c : CivilDate) (s : ℕ) → IsDeviationWithin f.deviation
    → plain_date f.date ≡ Some c → second_of_day f.time ≡ Some s → 9999 < c.year
    → moment_of f ≡ None
too_late f c s d e h lt =
    let late : 3_652_425 ≤ day_count c = omega (
      arith,
      count_parts c,
      years_to 10000 c.year (omega arith),
      days_to_10000,
    ) in
    let deviation = least_deviation f.deviation d in
    let none = past_u32 (seconds_since c s f.deviation)
    (late_seconds (day_count c) s first_day_of_2000 (unwrap_or f.deviation (pos 0)) late
    first_day_is deviation) in
    all_given f c s e h ∙ at_if (λ o. o ≡ None) (is_right_date f.date c) _ _ (λ _. none) (λ _. refl)

-- the last steps, without the casts
pub cast_back : (result : Option ℕ) (moved written deviation w d : ℤ) → FitsSigned w64 moved
    → FitsSigned w64 written → FitsSigned w16 deviation → result
    ≡ in_u32 (to_z w64 (of_z w64 moved)) → moved
    ≡ to_z w64 (of_z w64 written) +ℤ (pos 60 *ℤ to_z w16 (of_z w16 deviation)) → written ≡ w
    → deviation ≡ d → result ≡ in_u32 (w +ℤ (pos 60 *ℤ d))
cast_back result moved written deviation w d f g h last step e k =
    let parts : to_z w64 (of_z w64 written) +ℤ (pos 60 *ℤ to_z w16 (of_z w16 deviation))
    ≡ w +ℤ (pos 60 *ℤ d) = rw (to_z-of_z g, to_z-of_z h, e, k) refl in
    last ∙ ap in_u32 (to_z-of_z f ∙ (step ∙ parts))

small_seconds : (n : ℕ) → n < 2 ^ 63 → to_z w64 n ≡ pos n
small_seconds n h = grind (arith, nat_tests)

fits_seconds : (n : ℕ) → n < 2 ^ 62 → FitsSigned w64 (pos n -ℤ pos 63_113_904_000)
fits_seconds n h = omega (arith, signed_arith)

-- the seconds as they are written, past the casts
pub written_is : (n day second first : ℕ) → n ≡ 86400 * day + second → day ≤ 3_652_424
    → second < 86400 → first ≡ 730_485 → to_z w64 (of_z w64 (to_z w64 n -ℤ pos 63_113_904_000))
    ≡ pos (86400 * day + second) -ℤ pos (86400 * first)
written_is n day second first e h k l =
    let epoch : 86400 * first ≡ 63_113_904_000 = omega arith in
    let ends : pos n -ℤ pos 63_113_904_000 ≡ pos (86400 * day + second) -ℤ pos (86400 * first) =
    rw (e, epoch) refl in
    rw (small_seconds n (omega arith)) (to_z-of_z (fits_seconds n (omega arith)) ∙ ends)
