-- The paths of a journal.
--     numbered_path  a path with a number
--     older_names    the paths of the journals before the last renewals
--     ArePathsOf     the paths of the place of a journal
use Rattle.std.specs.Prelude.{◌≡◌, ℕ, zero, suc, List, [], ◌∷◌, ◌++◌, codes, decimal, map}
use Rattle.std.specs.Prelude.{string_bytes}
use Rattle.durable_lines.specs.declared.stored_place.PlacePaths.{PlacePaths}

-- a path, a period and a number
abbrev pub numbered_path : (path : List ℕ) → ℕ → List ℕ
numbered_path path number = path ++ (codes "." ++ decimal number)

-- the paths of the journals before the last renewals, numbered from 1, the last one first
abbrev pub older_names : (path : List ℕ) → (count : ℕ) → List (List ℕ)
older_names path zero = []
older_names path (suc count) = older_names path count ++ numbered_path path (suc count) ∷ []

-- whether these are the paths of the place of a journal that keeps this number of older files: its
-- draft has a name of its own, and so has each older file
pub record ArePathsOf (path : List ℕ) (kept : ℕ) (paths : PlacePaths) : Type 0 where
  pub file : string_bytes paths.path ≡ path
  pub draft : string_bytes paths.draft ≡ path ++ codes ".new"
  pub older : map string_bytes paths.older.items ≡ older_names path kept
