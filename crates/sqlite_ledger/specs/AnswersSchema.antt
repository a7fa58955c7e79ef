-- The table of a file of answers, as its text defines it.
--     answer_table      the states that meters reported
--     answers_schema    this table, and nothing else
use Rattle.std.specs.Prelude.{ℕ, true, false, [], ◌∷◌, codes}
use Rattle.sqlite.specs.Kind.TheVariants.{Integer, Text}
use Rattle.sqlite.specs.Table.{Table}
use Rattle.sqlite.specs.Schema.{Schema}
use Rattle.sqlite_ledger.specs.Schema.{strict_column, keyed_table}

-- the number of the tree that holds the table `answer`
abbrev pub answer_tree : ℕ
answer_tree = 0

-- the answers: a number that counts them, the job's name and address, the state, and the second
abbrev pub answer_table : Table
answer_table = keyed_table (codes "answer") answer_tree
    (strict_column (codes "number") Integer false ∷ strict_column (codes "name") Text true
    ∷ strict_column (codes "address") Text true ∷ strict_column (codes "state") Integer true
    ∷ strict_column (codes "asked_at") Integer true ∷ [])

-- the schema of a file of answers: its table, without an index or a view
abbrev pub answers_schema : Schema
answers_schema = record { tables = answer_table ∷ []; indexes = []; views = [] }
