-- The outcomes of a ledger's file.
--     kind_of           the word for an outcome's kind
--     number_of         its number, if it has one
--     outcome_row       the row of an outcome
--     IsRecorded        the trees have the outcome of the place
--     IsSafe            all trees that a crash may leave have it
use Rattle.std.specs.Prelude.{ℕ, ℤ, pos, List, [], ◌∷◌, codes}
use Rattle.sqlite.specs.declared.types.Value.{Value}
use Rattle.sqlite.specs.declared.types.Value.TheVariants.{Null, Int, Text as Words}
use Rattle.sqlite.specs.Cast.{cast}
use Rattle.sqlite.specs.Kind.TheVariants.{Integer}
use Rattle.sqlite.specs.Order.{Row}
use Rattle.sqlite.specs.Tree.{Trees}
use Rattle.sqlite_rules.specs.Lists.{Has}
use Rattle.client_core.specs.declared.job.Outcome.{Outcome}
use Rattle.client_core.specs.declared.job.Outcome.TheVariants.{Done, Refused, Rejected, Unknown}
use Rattle.sqlite_ledger.specs.Schema.{outcome_tree}

-- the word for an outcome in the column `kind` of the table `outcome`
abbrev pub kind_of : Outcome → List ℕ
kind_of (Done state) = codes "done"
kind_of (Refused code) = codes "refused"
kind_of (Rejected diagnostic) = codes "rejected"
kind_of Unknown = codes "unknown"

-- the number of an outcome in the column `number`: the state, the result code or the diagnostic,
-- and NULL if the outcome is unknown
abbrev pub number_of : Outcome → Value
number_of (Done state) = Int (pos state)
number_of (Refused code) = Int (pos code)
number_of (Rejected diagnostic) = Int (pos diagnostic)
number_of Unknown = Null

-- a row is its key, and then its columns, of which the one of the key is NULL
abbrev pub outcome_row : ℤ → Outcome → Value → Row
outcome_row place outcome at = Int place ∷ Null ∷ Words (kind_of outcome) ∷ number_of outcome ∷ cast
    Integer at ∷ []

-- whether the trees have this outcome of a place, with any time
abbrev pub IsRecorded : Trees → ℤ → Outcome → Type 0
IsRecorded db place outcome = (at : Value) × Has (db outcome_tree) (outcome_row place outcome at)

-- whether this outcome of a place is in all trees that a crash may leave
abbrev pub IsSafe : (Trees → Type 0) → ℤ → Outcome → Type 0
IsSafe may_leave place outcome = (db : Trees) → may_leave db → IsRecorded db place outcome
