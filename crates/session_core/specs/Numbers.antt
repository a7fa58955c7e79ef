-- The numbers of the ends.
use Rattle.std.specs.Prelude.{ℕ}
use Rattle.session_core.specs.declared.end.SessionEnd.{SessionEnd}
use Rattle.session_core.specs.declared.end.SessionEnd.TheVariants as end

-- the number of a session's end
abbrev pub end_number : SessionEnd → ℕ
end_number end.Closed = 1
end_number end.Cut = 2
end_number end.BadVersion = 3
end_number end.TooLong = 4
