-- What an INSERT of one row does to the trees.
use Rattle.std.proofs.Common.{◌≡◌, ◌≢◌, ◌⊎◌, inl, inr, ℕ, ℤ, List, [], ◌∷◌, Bool, true, false, cond}
use Rattle.std.proofs.Common.{Ok, Err, Result, refl, sym, ap, subst, ◌∙◌}
use Rattle.std.specs.List.{AllByRecursion}
use Rattle.sqlite.specs.declared.types.Value.{Value}
use Rattle.sqlite.specs.declared.types.Value.TheVariants.{Null, Int}
use Rattle.sqlite.specs.Order.{Row}
use Rattle.sqlite.specs.Ops.{unary}
use Rattle.sqlite.specs.Table.{Table}
use Rattle.sqlite.specs.Tree.{Trees}
use Rattle.sqlite.specs.Edit.{edit_of, are_fresh, put_all, taken_by}
use Rattle.sqlite_schema.specs.declared.schema.Keys.{Keys}
use Rattle.sqlite_rules.specs.Action.{works, Writes}
use Rattle.sqlite_rules.specs.Lists.{Has}
use Rattle.sqlite_rules.proofs.TableLemmas.{put_all_adds, put_all_keeps}
use Rattle.sqlite.specs.Cast.{cast}
use Rattle.sqlite.specs.Kind.TheVariants.{Integer}
use Rattle.sqlite.specs.Rowids.TheVariants.{Chosen}
use Rattle.sqlite.specs.Effect.{Database}
use Rattle.sqlite.proofs.Callers.{one_step}
use Rattle.sqlite_ledger.specs.Schema.{ledger_schema}

-- The row is put into the tree, in which no row had its key; the other tables are as they were.
pub record AddsRow (tree : ℕ) (db after : Database) (row : Row) : Type 0 where
  pub fresh : are_fresh (db.trees tree) (row ∷ []) ≡ true
  pub rows : after.trees tree ≡ put_all (db.trees tree) (row ∷ [])
  pub others : AllByRecursion (λ t. t.tree ≢ tree → after.trees t.tree ≡ db.trees t.tree)
      ledger_schema.tables
  pub schema : after.schema ≡ ledger_schema

module _ (tree : ℕ) (db after : Database) (row : Row) (adds : AddsRow tree db after row) where
  -- the row is there
  pub row_added : Has (after.trees tree) row
  row_added = subst (λ rows. Has rows row) (sym adds.rows)
      (put_all_adds (row ∷ []) (db.trees tree) row adds.fresh (inl refl))

  -- the rows that were there remain
  pub rows_kept : (other : Row) → Has (db.trees tree) other → Has (after.trees tree) other
  rows_kept other was = subst (λ rows. Has rows other) (sym adds.rows)
      (put_all_keeps (row ∷ []) (db.trees tree) other adds.fresh was)

-- A part that gave a value did not stop on the way.
pub went : {B E R : Type 0} {b : B} {Stops : E → Type 0} → ((stop : E) × Stops stop × (Ok b ≡ Err
    stop)) ⊎ R → R
went (inl stopped) = absurd (let e = stopped.2 in cc)
went (inr on) = on

pub same_value : {B E : Type 0} {a b : B} → ◌≡◌ {A = Result B E} (Ok a) (Ok b) → a ≡ b
same_value e = cc

either : (b : Bool) (x : Value) → cond b x x ≡ x
either true x = refl
either false x = refl

pub cast_int : (n : ℤ) → cast Integer (Int n) ≡ Int n
unfolding unary
cast_int n = either _ (Int n)

pub cast_null : cast Integer Null ≡ Null
unfolding unary
cast_null = either _ Null

module _ (table : Table) (keys : Keys) (db next : Trees) (rows : List Row) (row : Row) where
  -- An edit that puts in one row, where no foreign key acts.
  pub edit_adds : works ledger_schema keys 0 table.tree (taken_by db (edit_of db table [] Chosen 0
      rows)) (edit_of db table [] Chosen 0 rows).news ≡ []
      → (edit_of db table [] Chosen 0 rows).news ≡ row ∷ [] → Writes ledger_schema keys db (edit_of
      db table [] Chosen 0 rows) (Ok next)
      → AddsRow table.tree (record { schema = ledger_schema; trees = db }) (record {
        schema =
            ledger_schema;
        trees = next;
      }) row
  edit_adds none news writes =
      let step = one_step ledger_schema keys db next (edit_of db table [] Chosen 0 rows) none writes
      in
      record {
        fresh = subst (λ all. are_fresh (db table.tree) all ≡ true) news step.fresh;
        rows = step.rows ∙ ap (put_all (db table.tree)) news;
        others = step.tables;
        schema = refl;
      }
