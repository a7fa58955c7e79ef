-- Time limits in nanoseconds; None means no limit.
--     IsLimit       a limit in seconds; 0 means no limit
--     IsOver        the time of a limit is over
--     nanos_of      the nanoseconds of a limit
--     lesser_limit  the lesser of two limits
--     limit_after   the rest of a limit
use Rattle.std.specs.Prelude.{◌≡◌, ◌≤◌, ℕ, ◌*◌, ◌-◌, min, Option, Some, None}
use Rattle.std.specs.Duration.{as_nanos}
use Rattle.std.specs.declared.time.Duration.{Duration}

-- whether this is the limit of this number of seconds; 0 means no limit
abbrev pub IsLimit : ℕ → Option Duration → Type 0
IsLimit seconds None = seconds ≡ 0
IsLimit seconds (Some limit) = (1 ≤ seconds) × (as_nanos limit ≡ seconds * 1_000_000_000)

-- whether a session that has lasted this long has exceeded its limit
abbrev pub IsOver : Option Duration → Duration → Type 0
IsOver None lasted = ⊥
IsOver (Some limit) lasted = as_nanos limit ≤ as_nanos lasted

-- the nanoseconds of a limit
abbrev pub nanos_of : Option Duration → Option ℕ
nanos_of None = None
nanos_of (Some limit) = Some (as_nanos limit)

-- the lesser of two limits
abbrev pub lesser_limit : Option ℕ → Option ℕ → Option ℕ
lesser_limit None second = second
lesser_limit (Some first) None = Some first
lesser_limit (Some first) (Some second) = Some (min first second)

-- the rest of a limit after this number of nanoseconds
abbrev pub limit_after : Option ℕ → ℕ → Option ℕ
limit_after None lasted = None
limit_after (Some limit) lasted = Some (limit - lasted)
