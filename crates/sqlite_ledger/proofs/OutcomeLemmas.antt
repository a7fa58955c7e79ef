-- What the text of an outcome means, and what it does to the trees.
use Rattle.std.proofs.Common.{◌≡◌, ℕ, ℤ, List, [], ◌∷◌, codes, None, Ok, refl, sym, ap, subst}
use Rattle.std.proofs.Common.{◌∙◌, arith}
use Rattle.sqlite.specs.declared.types.Value.{Value}
use Rattle.sqlite.specs.declared.types.Value.TheVariants.{Null, Int, Text as Words}
use Rattle.sqlite.specs.Order.{Row}
use Rattle.sqlite.specs.Values.{bound_value}
use Rattle.sqlite.specs.Term.{lit, col}
use Rattle.sqlite.specs.Source.{Source}
use Rattle.sqlite.specs.Source.TheVariants.{Values}
use Rattle.sqlite.specs.Command.TheVariants.{Insert}
use Rattle.sqlite_tied.specs.Compute.{everything}
use Rattle.sqlite.specs.Listing.{understood}
use Rattle.sqlite.specs.Tree.{Trees}
use Rattle.sqlite.specs.Edit.{edit_of, numbered}
use Rattle.sqlite.specs.Cast.{cast, cast_row}
use Rattle.sqlite.specs.Kind.TheVariants.{Integer}
use Rattle.sqlite.specs.Rowids.TheVariants.{Chosen}
use Rattle.sqlite.specs.Does.{Tally, Does}
use Rattle.sqlite.specs.Rows.{Written}
use Rattle.sqlite.specs.Effect.{Database}
use Rattle.sqlite.specs.State.{State, mode_of}
use Rattle.sqlite.proofs.Callers.{IsPlain, command_of}
use Rattle.sqlite_rules.specs.Lists.{Has}
use Rattle.client_core.specs.declared.job.Outcome.{Outcome}
use Rattle.client_core.specs.declared.job.Outcome.TheVariants.{Done, Refused, Rejected, Unknown}
use Rattle.sqlite_ledger.specs.Schema.{ledger_schema, begun_tree, outcome_tree, outcome_table}
use Rattle.sqlite_ledger.specs.Outcomes.{kind_of, number_of, outcome_row, IsRecorded}
use Rattle.sqlite_ledger.proofs.InsertLemmas.{AddsRow, edit_adds, went, same_value, cast_int}
use Rattle.sqlite_ledger.proofs.InsertLemmas.{cast_null, row_added, rows_kept}

abbrev pub outcome_text : List ℕ
outcome_text = codes "INSERT INTO outcome (place, kind, number, at) VALUES (?1, ?2, ?3, ?4)"

abbrev pub outcome_source : Source
outcome_source = Values (col 0 0 ∷ lit Null ∷ col 0 1 ∷ col 0 2 ∷ col 0 3 ∷ []) 5

pub outcome_is : command_of (understood ledger_schema outcome_text) ≡ Insert 1 outcome_source
unfolding understood everything
outcome_is = refl

pub outcome_plain : IsPlain (understood ledger_schema outcome_text)
unfolding understood everything
outcome_plain = (refl, refl)

abbrev pub outcome_params : ℤ → Outcome → Value → Row
outcome_params place outcome at = Int place ∷ Words (kind_of outcome) ∷ number_of outcome ∷ at ∷ []

cast_number : (outcome : Outcome) → cast Integer (number_of outcome) ≡ number_of outcome
cast_number (Done state) = cast_int _
cast_number (Refused code) = cast_int _
cast_number (Rejected diagnostic) = cast_int _
cast_number Unknown = cast_null

-- A number is bound as it is.
pub bound_number : (outcome : Outcome) → bound_value (number_of outcome) ≡ number_of outcome
bound_number (Done state) = refl
bound_number (Refused code) = refl
bound_number (Rejected diagnostic) = refl
bound_number Unknown = refl

cast_outcome : (place : ℤ) (outcome : Outcome) (at : Value) → cast_row outcome_table (Int place ∷
    Null ∷ Words (kind_of outcome) ∷ number_of outcome ∷ at ∷ []) ≡ outcome_row place outcome at
cast_outcome place outcome at = rw (cast_int place, cast_null, cast_number outcome)

pub outcome_does : (place : ℤ) (outcome : Outcome) (at : Value) (s : State) (text : List ℕ) (after :
    Database) (tally : Tally) → s.now.schema ≡ ledger_schema
    → Does s.step_limit (mode_of s) (outcome_params place outcome at) s.now text None (Insert 1
    outcome_source) (Ok (tally, after)) → AddsRow outcome_tree s.now after (outcome_row place
    outcome at)
outcome_does place outcome at s text after tally has does =
    let db = s.now.trees in
    let params = outcome_params place outcome at in
    let done = went (subst (λ sc. Does s.step_limit (mode_of s) params (record s.now {
      schema = sc;
    }) text None (Insert 1 outcome_source) (Ok (tally, after))) has does) in
    let now = ap (λ (p : Tally × Database). p.1) (same_value (went (went done.2).2).2) in
    let given = went done.1 in
    let written = went (went given.2).2 in
    let counted = went written.2 in
    let trees : done.0.trees ≡ written.0 = ap (λ (it : Written). it.trees) (same_value counted.2) ∙
    same_value counted.1 in
    let is : given.0 ≡ (Int place ∷ Null ∷ Words (kind_of outcome) ∷ number_of outcome ∷ at ∷ []) ∷
    [] = given.1.1 in
    let news : (edit_of db outcome_table [] Chosen 0 given.0).news ≡ outcome_row place outcome at ∷
    [] =
    ap (λ all. (edit_of db outcome_table [] Chosen 0 all).news) is ∙ ap (λ row. numbered Chosen (db
    outcome_tree) (row ∷ [])) (cast_outcome place outcome at) in
    let adds = edit_adds outcome_table _ db written.0 given.0 (outcome_row place outcome at) refl
    news written.1 in
    let same : after ≡ record { schema = ledger_schema; trees = written.0 } = now ∙ ap (λ (t :
    Trees). let d : Database = record { schema = ledger_schema; trees = t } in d) trees in
    rw same (record { fresh = adds.fresh; rows = adds.rows; others = adds.others; schema = refl })

-- What keeps the rows of the outcomes keeps the outcomes.
pub recorded_remains : (db after : Trees)
    → ((row : Row) → Has (db outcome_tree) row → Has (after outcome_tree) row) → (other : ℤ)
    (held : Outcome) → IsRecorded db other held → IsRecorded after other held
recorded_remains db after kept other held was =
    (was.0, kept (outcome_row other held was.0) was.1)

module _ (db after : Database) (row : Row) (adds : AddsRow outcome_tree db after row) where
  -- the marks are as they were
  pub marks_same : after.trees begun_tree ≡ db.trees begun_tree
  marks_same = adds.others.0 (λ (same : begun_tree ≡ outcome_tree). absurd (omega (arith, same)))

  pub recorded : Has (after.trees outcome_tree) row
  recorded = row_added outcome_tree db after row adds

  -- the outcomes that were recorded remain
  pub recorded_kept : (other : ℤ) (kept : Outcome) → IsRecorded db.trees other kept
      → IsRecorded after.trees other kept
  recorded_kept = recorded_remains db.trees after.trees (rows_kept outcome_tree db after row adds)

-- What leaves the table of the outcomes alone keeps the outcomes.
pub recorded_same : (db after : Trees) → after outcome_tree ≡ db outcome_tree → (other : ℤ)
    (kept : Outcome) → IsRecorded db other kept → IsRecorded after other kept
recorded_same db after same other kept was = (
  was.0,
  subst (λ rows. Has rows (outcome_row other kept was.0)) (sym same) was.1,
)
