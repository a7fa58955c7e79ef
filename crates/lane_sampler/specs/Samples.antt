-- A block of samples as its callers see it.
use Rattle.std.specs.Prelude.{◌≡◌, ℕ, List, length, Option, Some, None, IfSome}

-- the maximum number of values, or of pairs of values, in a block
abbrev pub max_values : ℕ
max_values = 256

-- the import values, and in a block of pairs the export values
pub record Samples : Type 0 where
  pub import : List ℕ
  pub export : Option (List ℕ)

-- a block of import values alone
abbrev pub values_alone : List ℕ → Samples
values_alone values = record { import = values; export = None }

-- a block of pairs
abbrev pub pairs_of : List ℕ → List ℕ → Samples
pairs_of values others = record { import = values; export = Some others }

-- whether there are as many export values, if any, as import values
abbrev pub AreEven : Samples → Type 0
AreEven samples = IfSome samples.export (λ others. length others ≡ length samples.import)
