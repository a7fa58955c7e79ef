-- The tables of a ledger's file, as their texts define them.
--     strict_column     a column of a STRICT table, without a default
--     keyed_table       a table whose first column is its INTEGER PRIMARY KEY, without other rules
--     ledger_schema     the four tables of a ledger, and nothing else
--     empty_schema      no table, index or view
use Rattle.std.specs.Prelude.{ℕ, Bool, true, false, List, [], ◌∷◌, Some, codes}
use Rattle.sqlite.specs.Collation.TheVariants.{Binary}
use Rattle.sqlite.specs.declared.types.Value.TheVariants.{Null}
use Rattle.sqlite.specs.Kind.{Kind}
use Rattle.sqlite.specs.Kind.TheVariants.{Integer, Text}
use Rattle.sqlite_schema.specs.declared.schema.Column.{Column}
use Rattle.sqlite.specs.Table.{Table}
use Rattle.sqlite.specs.Schema.{Schema}

-- a column of a STRICT table with a type, without a default, and NOT NULL if `not_null` holds
abbrev pub strict_column : List ℕ → Kind → Bool → Column
strict_column name kind not_null = record {
  name = name;
  kind = kind;
  is_strict = true;
  not_null = not_null;
  default = Null;
  collation = Binary;
}

-- a table whose first column is its INTEGER PRIMARY KEY, without indexes, checks or other rules
abbrev pub keyed_table : List ℕ → ℕ → List Column → Table
keyed_table name tree columns = record {
  name = name;
  tree = tree;
  columns = columns;
  key = Some 0;
  primary = 0 ∷ [];
  uniques = [];
  orders = [];
  checks = [];
  references = [];
  computed = [];
  stamps = record { places = []; terms = []; formats = [] };
  is_counted = false;
}

-- the number of the tree that holds the table `begun`
abbrev pub begun_tree : ℕ
begun_tree = 0

-- the places whose command may have been sent, and the second of each mark
abbrev pub begun_table : Table
begun_table = keyed_table (codes "begun") begun_tree (strict_column (codes "place") Integer false
    ∷ strict_column (codes "at") Integer true ∷ [])

-- the number of the tree that holds the table `outcome`
abbrev pub outcome_tree : ℕ
outcome_tree = 1

-- the outcomes: the kind, its number, if it has one, and the second
abbrev pub outcome_table : Table
outcome_table = keyed_table (codes "outcome") outcome_tree
    (strict_column (codes "place") Integer false ∷ strict_column (codes "kind") Text true
    ∷ strict_column (codes "number") Integer false ∷ strict_column (codes "at") Integer true ∷ [])

-- the jobs of the campaign
abbrev pub job_table : Table
job_table = keyed_table (codes "job") 2
    (strict_column (codes "place") Integer false ∷ strict_column (codes "name") Text true
    ∷ strict_column (codes "address") Text true ∷ strict_column (codes "verb") Text true ∷ [])

-- one row: the version of the format, and the number of jobs
abbrev pub campaign_table : Table
campaign_table = keyed_table (codes "campaign") 3 (strict_column (codes "version") Integer false
    ∷ strict_column (codes "jobs") Integer true ∷ [])

-- the schema of a ledger's file: its four tables, without an index or a view
abbrev pub ledger_schema : Schema
ledger_schema = record {
  tables = begun_table ∷ outcome_table ∷ job_table ∷ campaign_table ∷ [];
  indexes = [];
  views = [];
}

-- the schema of an empty database
abbrev pub empty_schema : Schema
empty_schema = record { tables = []; indexes = []; views = [] }
