-- What the text of an answer means, and what it does to the trees.
use Rattle.std.proofs.Common.{◌≡◌, inl, ℕ, ℤ, pos, List, [], ◌∷◌, codes, true, None, Ok, refl, sym}
use Rattle.std.proofs.Common.{ap, subst, ◌∙◌}
use Rattle.sqlite.specs.declared.types.Value.TheVariants.{Null, Int, Text as Words}
use Rattle.sqlite.specs.Order.{Row}
use Rattle.sqlite.specs.Term.{lit, col}
use Rattle.sqlite.specs.Source.{Source}
use Rattle.sqlite.specs.Source.TheVariants.{Values}
use Rattle.sqlite.specs.Command.TheVariants.{Insert}
use Rattle.sqlite_tied.specs.Compute.{everything}
use Rattle.sqlite.specs.Listing.{understood}
use Rattle.sqlite.specs.Tree.{Trees}
use Rattle.sqlite.specs.Edit.{edit_of, numbered, are_fresh, put_all, taken_by}
use Rattle.sqlite.specs.Cast.{cast_row}
use Rattle.sqlite.specs.Rowids.TheVariants.{Chosen}
use Rattle.sqlite.specs.Does.{Tally, Does}
use Rattle.sqlite.specs.Rows.{Written}
use Rattle.sqlite.specs.Effect.{Database}
use Rattle.sqlite.specs.State.{State, mode_of}
use Rattle.sqlite.proofs.Callers.{IsPlain, command_of, one_step}
use Rattle.sqlite_schema.specs.declared.schema.Keys.{Keys}
use Rattle.sqlite_rules.specs.Action.{works, Writes}
use Rattle.sqlite_rules.specs.Lists.{Has}
use Rattle.sqlite_rules.proofs.TableLemmas.{put_all_adds, put_all_keeps}
use Rattle.sqlite_ledger.proofs.InsertLemmas.{went, same_value, cast_int, cast_null}
use Rattle.ledger_reports.specs.declared.answer.StateAnswer.{StateAnswer}
use Rattle.std.proofs.lemmas.Bool.{and_parts, not-true}
use Rattle.sqlite_ledger.specs.Answers.{answer_row, second_of, AddsAnswers, IsRecorded}
use Rattle.sqlite_ledger.specs.AnswersSchema.{answer_tree, answer_table, answers_schema}

abbrev pub answer_text : List ℕ
answer_text =
    codes "INSERT INTO answer (number, name, address, state, asked_at) VALUES (?1, ?2, ?3, ?4, ?5)"

abbrev pub answer_source : Source
answer_source =
    Values (col 0 0 ∷ lit Null ∷ col 0 1 ∷ col 0 2 ∷ col 0 3 ∷ col 0 4 ∷ []) 6

pub answer_is : command_of (understood answers_schema answer_text) ≡ Insert 0 answer_source
unfolding understood everything
answer_is = refl

pub answer_plain : IsPlain (understood answers_schema answer_text)
unfolding understood everything
answer_plain = (refl, refl)

-- the values of the parameters
abbrev pub answer_params : ℤ → StateAnswer → Row
answer_params number answer = Int number ∷ Words answer.name ∷ Words answer.address
    ∷ Int (pos answer.answer.state) ∷ Int (pos (second_of answer.answer.asked_at)) ∷ []

-- The row is put into the table, in which no row had its key.
pub record AddsAnswer (db after : Database) (row : Row) : Type 0 where
  pub fresh : are_fresh (db.trees answer_tree) (row ∷ []) ≡ true
  pub rows : after.trees answer_tree ≡ put_all (db.trees answer_tree) (row ∷ [])
  pub schema : after.schema ≡ answers_schema

module _ (keys : Keys) (db next : Trees) (rows : List Row) (row : Row) where
  -- An edit that puts in one row, where no foreign key acts.
  edit_adds : works answers_schema keys 0 answer_tree (taken_by db (edit_of db answer_table []
      Chosen 0 rows)) (edit_of db answer_table [] Chosen 0 rows).news ≡ []
      → (edit_of db answer_table [] Chosen 0 rows).news ≡ row ∷ [] → Writes answers_schema keys db
      (edit_of db answer_table [] Chosen 0 rows) (Ok next)
      → AddsAnswer (record { schema = answers_schema; trees = db }) (record {
        schema = answers_schema;
        trees = next;
      }) row
  edit_adds none news writes =
      let step = one_step answers_schema keys db next (edit_of db answer_table [] Chosen 0 rows)
      none writes in
      record {
        fresh = subst (λ all. are_fresh (db answer_tree) all ≡ true) news step.fresh;
        rows = step.rows ∙ ap (put_all (db answer_tree)) news;
        schema = refl;
      }

cast_answer : (number : ℤ) (answer : StateAnswer) → cast_row answer_table (Int number ∷ Null
    ∷ Words answer.name ∷ Words answer.address ∷ Int (pos answer.answer.state)
    ∷ Int (pos (second_of answer.answer.asked_at)) ∷ []) ≡ answer_row number answer
cast_answer number answer = rw (
  cast_int number,
  cast_null,
  cast_int (pos answer.answer.state),
  cast_int (pos (second_of answer.answer.asked_at)),
)

pub answer_does : (number : ℤ) (answer : StateAnswer) (s : State) (text : List ℕ) (after : Database)
    (tally : Tally) → s.now.schema ≡ answers_schema
    → Does s.step_limit (mode_of s) (answer_params number answer) s.now text None (Insert 0
    answer_source) (Ok (tally, after)) → AddsAnswer s.now after (answer_row number answer)
answer_does number answer s text after tally has does =
    let db = s.now.trees in
    let params = answer_params number answer in
    let done = went (subst (λ sc. Does s.step_limit (mode_of s) params (record s.now {
      schema = sc;
    }) text None (Insert 0 answer_source) (Ok (tally, after))) has does) in
    let now = ap (λ (p : Tally × Database). p.1) (same_value (went (went done.2).2).2) in
    let given = went done.1 in
    let written = went (went given.2).2 in
    let counted = went written.2 in
    let trees : done.0.trees ≡ written.0 = ap (λ (it : Written). it.trees) (same_value counted.2) ∙
    same_value counted.1 in
    let is : given.0 ≡ (Int number ∷ Null ∷ Words answer.name ∷ Words answer.address
    ∷ Int (pos answer.answer.state) ∷ Int (pos (second_of answer.answer.asked_at)) ∷ []) ∷ [] =
    given.1.1 in
    let news : (edit_of db answer_table [] Chosen 0 given.0).news ≡ answer_row number answer ∷ [] =
    ap (λ all. (edit_of db answer_table [] Chosen 0 all).news) is ∙ ap (λ row. numbered Chosen (db
    answer_tree) (row ∷ [])) (cast_answer number answer) in
    let adds = edit_adds _ db written.0 given.0 (answer_row number answer) refl news written.1 in
    let same : after ≡ record { schema = answers_schema; trees = written.0 } = now ∙ ap (λ (t :
    Trees). let d : Database = record { schema = answers_schema; trees = t } in d) trees in
    rw same (record { fresh = adds.fresh; rows = adds.rows; schema = refl })

module _ (db after : Database) (number : ℤ) (answer : StateAnswer) (adds : AddsAnswer db after
    (answer_row number answer)) where
  pub recorded : IsRecorded after.trees answer
  recorded = (
    number,
    subst (λ rows. Has rows (answer_row number answer)) (sym adds.rows) (put_all_adds (answer_row
        number answer ∷ []) (db.trees answer_tree) (answer_row number answer) adds.fresh
        (inl refl)),
  )

  pub kept : (other : StateAnswer) → IsRecorded db.trees other → IsRecorded after.trees other
  kept other was = (
    was.0,
    subst (λ rows. Has rows (answer_row was.0 other)) (sym adds.rows) (put_all_keeps (answer_row
        number answer ∷ []) (db.trees answer_tree) (answer_row was.0 other) adds.fresh was.1),
  )

  -- the rows are those before and that of the answer
  pub added : AddsAnswers (db.trees answer_tree) (answer ∷ []) (after.trees answer_tree)
  added = (number, not-true _ (and_parts _ _ adds.fresh).0, adds.rows)
