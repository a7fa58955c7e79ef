-- A column of comma-separated values.
--     column     a text that may be missing
use Rattle.std.specs.Prelude.{ℕ, List, [], Option, Some, None}

-- a text that may be missing: then its column is empty
abbrev pub column : Option (List ℕ) → List ℕ
column (Some text) = text
column None = []
