-- What the text of a mark means, and what it does to the marks.
use Rattle.std.proofs.Common.{◌≡◌, ℕ, ℤ, List, [], ◌∷◌, codes, true, None, Ok, refl, sym, ap}
use Rattle.std.proofs.Common.{subst, ◌∙◌, arith, true≢false}
use Rattle.std.proofs.lemmas.Bool.{and_parts, not-true}
use Rattle.std.proofs.lemmas.Cmp.{tied_itself}
use Rattle.std.specs.List.{list_any}
use Rattle.std.specs.Ordering.{is_eq}
use Rattle.sqlite.specs.declared.types.Value.{Value}
use Rattle.sqlite.specs.declared.types.Value.TheVariants.{Null, Int}
use Rattle.sqlite_value.proofs.OrderLemmas.{value_cmp_total}
use Rattle.sqlite.specs.Order.{Row}
use Rattle.sqlite.specs.Term.{lit, col}
use Rattle.sqlite.specs.Source.{Source}
use Rattle.sqlite.specs.Source.TheVariants.{Values}
use Rattle.sqlite.specs.Command.TheVariants.{Insert}
use Rattle.sqlite_tied.specs.Compute.{everything}
use Rattle.sqlite.specs.Listing.{understood}
use Rattle.sqlite.specs.Tree.{Trees, has_rowid}
use Rattle.sqlite.specs.Edit.{edit_of, numbered}
use Rattle.sqlite.specs.Cast.{cast, cast_row}
use Rattle.sqlite.specs.Kind.TheVariants.{Integer}
use Rattle.sqlite.specs.Rowids.TheVariants.{Chosen}
use Rattle.sqlite.specs.Does.{Tally, Does}
use Rattle.sqlite.specs.Rows.{Written}
use Rattle.sqlite.specs.Effect.{Database}
use Rattle.sqlite.specs.State.{State, mode_of}
use Rattle.sqlite.proofs.Callers.{IsPlain, command_of}
use Rattle.sqlite_rules.specs.Lists.{Has}
use Rattle.sqlite_rules.proofs.ListLemmas.{some_has, some_from}
use Rattle.sqlite_ledger.specs.Schema.{ledger_schema, begun_tree, outcome_tree}
use Rattle.sqlite_ledger.specs.Schema.{begun_table}
use Rattle.sqlite_ledger.specs.Marks.{IsBegun}
use Rattle.sqlite_ledger.proofs.InsertLemmas.{AddsRow, edit_adds, went, same_value, cast_int}
use Rattle.sqlite_ledger.proofs.InsertLemmas.{cast_null, row_added, rows_kept}

abbrev pub begun_text : List ℕ
begun_text = codes "INSERT INTO begun (place, at) VALUES (?1, ?2)"

abbrev pub begun_source : Source
begun_source = Values (col 0 0 ∷ lit Null ∷ col 0 1 ∷ []) 3

pub begun_is : command_of (understood ledger_schema begun_text) ≡ Insert 0 begun_source
unfolding understood everything
begun_is = refl

pub begun_plain : IsPlain (understood ledger_schema begun_text)
unfolding understood everything
begun_plain = (refl, refl)

abbrev pub mark_row : ℤ → Value → Row
mark_row place at = Int place ∷ Null ∷ cast Integer at ∷ []

pub cast_mark : (place : ℤ) (at : Value) → cast_row begun_table (Int place ∷ Null ∷ at ∷ [])
    ≡ mark_row place at
cast_mark place at = rw (cast_int place, cast_null)

pub begun_does : (place : ℤ) (at : Value) (s : State) (text : List ℕ) (after : Database) (tally :
    Tally) → s.now.schema ≡ ledger_schema
    → Does s.step_limit (mode_of s) (Int place ∷ at ∷ []) s.now text None (Insert 0 begun_source)
    (Ok (tally, after)) → AddsRow begun_tree s.now after (mark_row place at)
begun_does place at s text after tally has does =
    let db = s.now.trees in
    let params = Int place ∷ at ∷ [] in
    let done = went (subst (λ sc. Does s.step_limit (mode_of s) params (record s.now {
      schema = sc;
    }) text None (Insert 0 begun_source) (Ok (tally, after))) has does) in
    let now = ap (λ (p : Tally × Database). p.1) (same_value (went (went done.2).2).2) in
    let given = went done.1 in
    let written = went (went given.2).2 in
    let counted = went written.2 in
    let trees : done.0.trees ≡ written.0 = ap (λ (it : Written). it.trees) (same_value counted.2) ∙
    same_value counted.1 in
    let is : given.0 ≡ (Int place ∷ Null ∷ at ∷ []) ∷ [] = given.1.1 in
    let news : (edit_of db begun_table [] Chosen 0 given.0).news ≡ mark_row place at ∷ [] =
    ap (λ all. (edit_of db begun_table [] Chosen 0 all).news) is ∙ ap (λ row. numbered Chosen (db
    begun_tree) (row ∷ [])) (cast_mark place at) in
    let adds = edit_adds begun_table _ db written.0 given.0 (mark_row place at) refl news written.1
    in
    let same : after ≡ record { schema = ledger_schema; trees = written.0 } = now ∙ ap (λ (t :
    Trees). let d : Database = record { schema = ledger_schema; trees = t } in d) trees in
    rw same (record { fresh = adds.fresh; rows = adds.rows; others = adds.others; schema = refl })

-- A row with this key is there.
pub has_begun : (db : Trees) (place : ℤ) (at : Value)
    → Has (db begun_tree) (Int place ∷ Null ∷ at ∷ []) → IsBegun db place
has_begun db place at has =
    some_from (has_rowid place) (db begun_tree) (Int place ∷ Null ∷ at ∷ []) has
    (ap is_eq (tied_itself value_cmp_total (Int place)))

-- What keeps the rows of the marks keeps the marks.
pub begun_remains : (db after : Trees)
    → ((row : Row) → Has (db begun_tree) row → Has (after begun_tree) row) → (other : ℤ)
    → IsBegun db other → IsBegun after other
begun_remains db after kept other was =
    let row = some_has (has_rowid other) (db begun_tree) was in
    some_from (has_rowid other) (after begun_tree) row.0 (kept row.0 row.1) row.2

module _ (db after : Database) (place : ℤ) (at : Value) (adds : AddsRow begun_tree db after
    (mark_row place at)) where
  pub begun_after : IsBegun after.trees place
  begun_after = has_begun after.trees place (cast Integer at)
      (row_added begun_tree db after (mark_row place at) adds)

  pub begun_kept : (other : ℤ) → IsBegun db.trees other → IsBegun after.trees other
  begun_kept = begun_remains db.trees after.trees
      (rows_kept begun_tree db after (mark_row place at) adds)

  pub not_before : ¬ IsBegun db.trees place
  not_before was = true≢false (sym was ∙ not-true _ (and_parts _ _ adds.fresh).0)

  -- the outcomes are as they were
  pub outcomes_same : after.trees outcome_tree ≡ db.trees outcome_tree
  outcomes_same = adds.others.1.0 (λ (same : outcome_tree ≡ begun_tree). absurd (omega
      (arith, same)))

-- What leaves the table of the marks alone keeps the marks.
pub begun_same : (db after : Trees) → after begun_tree ≡ db begun_tree → (other : ℤ) → IsBegun db
    other → IsBegun after other
begun_same db after same other was = subst (λ rows. list_any (has_rowid other) rows ≡ true) (sym
    same) was
