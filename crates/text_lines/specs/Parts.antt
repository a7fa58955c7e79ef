-- The parts of a list of bytes between the bytes of one value.
use Rattle.std.specs.Prelude.{ℕ, ◌==◌, List}
use Rattle.std.specs.List.{slice_split}

-- the bytes before, between and after the bytes of this value: one part more than there are such
-- bytes
abbrev pub parts_at : ℕ → List ℕ → List (List ℕ)
parts_at byte bytes = slice_split (λ b. b == byte) bytes
