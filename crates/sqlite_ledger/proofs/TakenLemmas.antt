-- An INSERT of a mark that is refused since its key is taken: the mark was there.
use Rattle.std.proofs.Common.{◌≡◌, ◌⊎◌, inl, inr, ℕ, zero, suc, ℤ, List, [], ◌∷◌, length, Bool}
use Rattle.std.proofs.Common.{true, false, not, ◌&&◌, Option, Some, None, Result, Ok, Err, refl, sym}
use Rattle.std.proofs.Common.{ap, subst, ◌∙◌, arith, length-append, true≢false}
use Rattle.std.specs.Prelude.{option_map}
use Rattle.sqlite.specs.declared.types.Value.{Value}
use Rattle.sqlite.specs.declared.types.Value.TheVariants.{Int}
use Rattle.sqlite.specs.Tree.{Trees}
use Rattle.sqlite_schema.specs.declared.schema.Constraint.TheVariants.{Datatype, NotNull, Check}
use Rattle.sqlite_schema.specs.declared.schema.Constraint.TheVariants.{PrimaryKey, Unique, ForeignKey}
use Rattle.sqlite_schema.specs.declared.schema.Keys.{Keys}
use Rattle.sqlite_schema.specs.declared.schema.Schema.{Schema}
use Rattle.sqlite_rules.specs.declared.error.Refusal.{Refusal}
use Rattle.sqlite_rules.specs.declared.error.Refusal.TheVariants.{Violates, Mismatch, NoRowid}
use Rattle.sqlite_rules.specs.declared.error.Refusal.TheVariants.{BadReference, TooDeep}
use Rattle.sqlite.specs.Edit.{Edit, edit_of, numbered, left_by, taken_by, are_fresh, IsRefused}
use Rattle.sqlite_rules.specs.Action.{works, Leads, Writes}
use Rattle.sqlite.specs.Rowids.TheVariants.{Chosen}
use Rattle.sqlite.specs.Effect.{edit_error}
use Rattle.sqlite.specs.declared.error.Error.{Error}
use Rattle.sqlite.specs.Command.TheVariants.{Insert}
use Rattle.sqlite.specs.Does.{Does}
use Rattle.sqlite.specs.State.{State, mode_of}
use Rattle.sqlite_ledger.specs.Schema.{ledger_schema, begun_tree, begun_table}
use Rattle.sqlite_ledger.specs.Marks.{IsBegun}
use Rattle.sqlite_ledger.specs.Taken.{is_taken}
use Rattle.sqlite_ledger.proofs.MarkLemmas.{begun_source, mark_row, cast_mark}

same_stop : {B E : Type 0} {a b : E} → ◌≡◌ {A = Result B E} (Err a) (Err b) → a ≡ b
same_stop e = cc

-- A part that is refused was refused on the way, or at its end.
stopped : {B E R : Type 0} {e : E} {Stops : E → Type 0} → ((stop : E) × Stops stop
    × (◌≡◌ {A = Result B E} (Err e) (Err stop))) ⊎ R → Stops e ⊎ R
stopped {B} {E} {R} {e} {Stops} (inl h) = inl (subst Stops (sym (same_stop h.2)) h.1)
stopped (inr on) = inr on

-- No part that gives a value is refused.
never_given : {B E : Type 0} {e : E} {b : B} → ◌≡◌ {A = Result B E} (Err e) (Ok b) → ⊥
never_given h = cc

-- an error that is not that of a taken key
pub other_error : (e other : Error) → e ≡ other → is_taken other ≡ false → is_taken e ≡ true → ⊥
other_error e other same unlike taken = true≢false (sym taken ∙ ap is_taken same ∙ unlike)

-- Of the refusals of an edit one is that of a taken key.
is_key : (why : Refusal) → is_taken (edit_error why) ≡ true → why ≡ Violates PrimaryKey
is_key (Violates Datatype) h = absurd (true≢false (sym h))
is_key (Violates NotNull) h = absurd (true≢false (sym h))
is_key (Violates Check) h = absurd (true≢false (sym h))
is_key (Violates PrimaryKey) h = refl
is_key (Violates Unique) h = absurd (true≢false (sym h))
is_key (Violates ForeignKey) h = absurd (true≢false (sym h))
is_key Mismatch h = absurd (true≢false (sym h))
is_key NoRowid h = absurd (true≢false (sym h))
is_key BadReference h = absurd (true≢false (sym h))
is_key TooDeep h = absurd (true≢false (sym h))

same_some : {A : Type 0} {a b : A} → Some a ≡ Some b → a ≡ b
same_some h = cc

never_none : {A : Type 0} {a : A} → Some a ≡ None → ⊥
never_none h = cc

module _ (schema : Schema) (keys : Keys) (db : Trees) (edit : Edit) (none : works schema keys 0
    edit.table.tree (taken_by db edit) edit.news ≡ []) where
  -- no action follows the edit, and so none is refused
  never_acts : (n : ℕ) (next : Trees) (why : Option Refusal) → Leads schema keys n next [] (Err why)
      → ⊥
  never_acts zero next why h = never_given h.1
  never_acts (suc n) next why h = omega (arith, ap length h.2, length-append h.0 (h.1 ∷ []))

  -- an edit that is refused by a taken key has a row whose key is there
  pub edit_taken : (why : Option Refusal) (e : Error) → is_taken e ≡ true
      → Some e ≡ option_map edit_error why → Writes schema keys db edit (Err why)
      → are_fresh (left_by db edit) edit.news ≡ false
  edit_taken why e taken same (inl refused) =
      let is : why ≡ Some refused.0 = same_stop refused.2 in
      let error : e ≡ edit_error refused.0 = same_some (same ∙ ap (option_map edit_error) is) in
      subst (IsRefused schema keys db edit)
      (is_key refused.0 (subst (λ x. is_taken x ≡ true) error taken)) refused.1
  edit_taken why e taken same (inr (inl big)) = absurd (never_none (same
      ∙ ap (option_map edit_error) (same_stop big.3)))
  edit_taken why e taken same (inr (inr went)) =
      absurd (never_acts went.2.0 went.0 why (rw none at went.2.1))

is_in : (b : Bool) → (not b && true) ≡ false → b ≡ true
is_in true h = refl
is_in false h = sym h

pub begun_taken : (place : ℤ) (at : Value) (s : State) (text : List ℕ) (e : Error) → s.now.schema ≡
    ledger_schema → is_taken e ≡ true
    → Does s.step_limit (mode_of s) (Int place ∷ at ∷ []) s.now text None (Insert 0 begun_source)
    (Err (Some e)) → IsBegun s.now.trees place
begun_taken place at s text e has taken does =
    let db = s.now.trees in
    let params = Int place ∷ at ∷ [] in
    elim (stopped (subst (λ sc. Does s.step_limit (mode_of s) params (record s.now {
      schema = sc;
    }) text None (Insert 0 begun_source) (Err (Some e))) has does)) [
      | inl inserts ↦ elim (stopped inserts) [
        | inl source ↦ elim source [
          | inl mistyped ↦ absurd (other_error e _ mistyped.0 refl taken)
          | inr interrupted ↦ absurd (other_error e _ interrupted.0 refl taken)
        ]
        | inr given ↦ elim (stopped given.2) [
          | inl counter ↦ absurd (never_given counter)
          | inr counted ↦ elim (stopped counted.2) [
            | inl edited ↦
                let news : (edit_of db begun_table [] Chosen 0 given.0).news
                ≡ mark_row place at ∷ [] =
                ap (λ all. (edit_of db begun_table [] Chosen 0 all).news) given.1.1
                ∙ ap (λ row. numbered Chosen (db begun_tree) (row ∷ [])) (cast_mark place at) in
                is_in _ (subst (λ all. are_fresh (db begun_tree) all ≡ false) news
                (edit_taken ledger_schema _ db (edit_of db begun_table [] Chosen 0 given.0) refl
                edited.0 e taken edited.2 edited.1))
            | inr mid ↦ elim (stopped mid.2) [
              | inl counts ↦ absurd (never_given counts)
              | inr next ↦ absurd (never_given next.2)
            ]
          ]
        ]
      ]
      | inr ended ↦ elim (stopped ended.2) [
        | inl tested ↦ absurd (other_error e _ (same_some tested.1) refl taken)
        | inr doubt ↦ elim (stopped doubt.2) [
          | inl shows ↦ absurd (never_given shows)
          | inr shown ↦ absurd (never_given shown.2)
        ]
      ]
    ]
