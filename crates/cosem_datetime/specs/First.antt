-- The first number that passes a test, from a given number on.
use Rattle.std.specs.Prelude.{◌≡◌, ℕ, ◌/◌, ◌%◌, ◌<◌, ◌≤◌, Bool, true, false, ◌&&◌, Option, MatchOption}
use Rattle.cosem_datetime.specs.Fields.{TimeFields}
use Rattle.cosem_datetime.specs.Matching.{holds}

-- whether no number from `from` to before `limit` passes the test
pub record NonePasses (test : ℕ → Bool) (from limit : ℕ) : Type 0 where
  pub none : (n : ℕ) → from ≤ n → n < limit → test n ≡ false

-- whether n, which is less than `limit`, is the first number from `from` on that passes the test
pub record IsFirst (test : ℕ → Bool) (from limit n : ℕ) : Type 0 where
  pub low : from ≤ n
  pub high : n < limit
  pub passes : test n ≡ true
  pub before : NonePasses test from n

-- whether a result is the first number of a range that passes the test, or `None` if no number of
-- the range passes
abbrev pub IsFirstIfAny : (ℕ → Bool) → ℕ → ℕ → Option ℕ → Type 0
IsFirstIfAny test from limit found =
    MatchOption found (NonePasses test from limit) (IsFirst test from limit)

-- whether the number of whole units in n passes one test, and the remainder the other
unfoldable pub parts_pass : ℕ → (ℕ → Bool) → (ℕ → Bool) → ℕ → Bool
parts_pass unit whole left n = whole (n / unit) && left (n % unit)

-- whether a second of the hour has the minute and the second
abbrev pub hour_second_holds : Option ℕ → Option ℕ → ℕ → Bool
hour_second_holds minute second = parts_pass 60 (holds minute) (holds second)

-- whether a second of the day has the hour, the minute and the second
abbrev pub day_second_holds : TimeFields → ℕ → Bool
day_second_holds t = parts_pass 3600 (holds t.hour) (hour_second_holds t.minute t.second)

-- whether the answer is `true` exactly if some number from `from` to `to`, both included, passes
-- the test
pub record TellsPassing (test : ℕ → Bool) (from to : ℕ) (answer : Bool) : Type 0 where
  pub found : answer ≡ true → (n : ℕ) × ((from ≤ n) × ((n ≤ to) × (test n ≡ true)))
  pub none : answer ≡ false → (n : ℕ) → from ≤ n → n ≤ to → test n ≡ false
