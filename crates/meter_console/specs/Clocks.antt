-- The moments of the clock that a console holds back.
--     day           the seconds of a day
--     IsFarAhead    a moment is more than a day after another
--     IsStep        a moment is far ahead of the last one, or of the machine's clock
use Rattle.std.specs.Prelude.{◌⊎◌, ◌<◌, ◌+◌, ℕ, Option, Some, None}

-- the seconds of a day
abbrev pub day : ℕ
day = 86400

-- whether a moment is more than a day after another, if that is known
abbrev pub IsFarAhead : Option ℕ → ℕ → Type 0
IsFarAhead None moment = ⊥
IsFarAhead (Some known) moment = known + day < moment

-- whether a moment is far ahead of the last one, or of the machine's clock
abbrev pub IsStep : (last machine : Option ℕ) → ℕ → Type 0
IsStep last machine moment = IsFarAhead last moment ⊎ IsFarAhead machine moment
