-- How a session may end.
--     EndsWithInput    the session ends because its input ends
use Rattle.std.specs.Prelude.{⊤}
use Rattle.session_core.specs.declared.end.SessionEnd.{SessionEnd}
use Rattle.session_core.specs.declared.end.SessionEnd.TheVariants.{Closed, Cut, BadVersion, TooLong}

-- whether the session ends because its input ends, and not because of an invalid header
abbrev pub EndsWithInput : SessionEnd → Type 0
EndsWithInput Closed = ⊤
EndsWithInput Cut = ⊤
EndsWithInput BadVersion = ⊥
EndsWithInput TooLong = ⊥
