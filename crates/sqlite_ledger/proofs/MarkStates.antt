-- What an INSERT of a mark does to the marks that a crash leaves.
use Rattle.std.proofs.Common.{◌≡◌, ℕ, ℤ, [], ◌∷◌, Ok, Err, Result, OnOk, IfErr, IsTrue, sym, subst, ◌∙◌}
use Rattle.sqlite.specs.declared.types.Value.{Value}
use Rattle.sqlite.specs.declared.types.Value.TheVariants.{Int}
use Rattle.sqlite.specs.Order.{Row}
use Rattle.sqlite.specs.Tree.{Trees}
use Rattle.sqlite.specs.declared.error.Error.{Error}
use Rattle.sqlite.specs.State.{State, HasCleanDisk, IsUnchanged, Survives, Executes, CommitsBy}
use Rattle.sqlite_ledger.specs.Schema.{ledger_schema, begun_tree}
use Rattle.client_core.specs.declared.job.Outcome.{Outcome}
use Rattle.sqlite_ledger.specs.Taken.{is_taken}
use Rattle.sqlite_ledger.specs.Marks.{IsBegun, IsMarked}
use Rattle.sqlite_ledger.specs.Outcomes.{IsRecorded, IsSafe}
use Rattle.sqlite_ledger.proofs.OutcomeLemmas.{recorded_same}
use Rattle.sqlite_ledger.proofs.MarkLemmas.{begun_text, begun_source, begun_is, begun_plain}
use Rattle.sqlite_ledger.proofs.MarkLemmas.{begun_does, mark_row, begun_after, begun_kept}
use Rattle.sqlite_ledger.proofs.MarkLemmas.{not_before, outcomes_same}
use Rattle.sqlite_ledger.proofs.TakenLemmas.{begun_taken}
use Rattle.sqlite_ledger.specs.AtRest.{IsAtRest}
use Rattle.sqlite_ledger.proofs.InsertStates.{IsSettled, IsInsert}
use Rattle.sqlite_ledger.proofs.InsertStates as insert

abbrev mark_params : ℤ → Value → Row
mark_params place at = Int place ∷ at ∷ []

mark : (place : ℤ) (at : Value) → IsInsert begun_text (mark_params place at) 0 begun_source
    begun_tree (mark_row place at)
mark place at = record { is = begun_is; plain = begun_plain; does = begun_does place at }

module _ (old mid new : State) (place : ℤ) (at : Value) (has : old.now.schema ≡ ledger_schema) (rest
    : IsAtRest old) (same : IsUnchanged old mid) where
  pub durable : (r : Result ℕ Error) → Executes begun_text (mark_params place at) mid new r →
      IsSettled new → OnOk r (IsMarked new.may_leave place)
  durable (Ok count) h settled = λ db left.
      subst (λ (d : Trees). IsBegun d place) (sym (insert.left_is _ _ _ _ _ _ (mark place at) old
      mid new has rest same count h settled db left))
      (begun_after mid.now new.now place at (insert.adds _ _ _ _ _ _ (mark place at) old mid new has
      rest same count h))
  durable (Err e) h settled = tt

  pub fresh : (r : Result ℕ Error) → Executes begun_text (mark_params place at) mid new r →
      IsSettled old → OnOk r (¬ IsMarked old.may_leave place)
  fresh (Ok count) h settled = λ down.
      not_before mid.now new.now place at (insert.adds _ _ _ _ _ _ (mark place at) old mid new has
      rest same count h)
      (down mid.now.trees (insert.start_left _ _ _ _ _ _ (mark place at) old mid new has rest same
      settled))
  fresh (Err e) h settled = tt

  pub schema : (r : Result ℕ Error) → Executes begun_text (mark_params place at) mid new r → OnOk r
      (new.now.schema ≡ ledger_schema)
  schema = insert.schema _ _ _ _ _ _ (mark place at) old mid new has rest same

  pub taken : (r : Result ℕ Error) → Executes begun_text (mark_params place at) mid new r → IfErr r
      (λ e. IsTrue (is_taken e) → new.now.schema ≡ ledger_schema)
  taken = insert.taken _ _ _ _ _ _ (mark place at) old mid new has rest same

  -- the mark was there, if its key was taken
  pub was_marked : (r : Result ℕ Error) → Executes begun_text (mark_params place at) mid new r →
      IsSettled old → IfErr r (λ e. IsTrue (is_taken e) → IsMarked old.may_leave place)
  was_marked (Ok count) h settled = tt
  was_marked (Err e) h settled = λ taken db left.
      let mid_has = insert.mid_has _ _ _ _ _ _ (mark place at) old mid new has rest same in
      let it = insert.taken_does _ _ _ _ _ _ (mark place at) mid new e mid_has h taken in
      subst (λ (d : Trees). IsBegun d place)
      (insert.start_is _ _ _ _ _ _ (mark place at) old mid new has rest same
      ∙ sym (settled.settled same.0.was_open db left))
      (begun_taken place at mid it.0 e mid_has taken it.1)

  pub kept : IsSettled old → HasCleanDisk new → Survives old mid (λ _. ⊥) → Survives mid new
      (CommitsBy begun_text (mark_params place at) mid) → (other : ℤ) → IsMarked old.may_leave other
      →
      IsMarked new.may_leave other
  kept start clean first second other =
      insert.kept _ _ _ _ _ _ (mark place at) old mid new has rest same start clean first second (λ
      d. IsBegun d other) (λ db after adds. begun_kept db after place at adds other)

  pub remains : IsSettled old → HasCleanDisk new → Survives old mid (λ _. ⊥) → Survives mid new
      (CommitsBy begun_text (mark_params place at) mid) → (other : ℤ) (held : Outcome)
      → IsSafe old.may_leave other held → IsSafe new.may_leave other held
  remains start clean first second other held =
      insert.kept _ _ _ _ _ _ (mark place at) old mid new has rest same start clean first second (λ
      d. IsRecorded d other held) (λ db after adds. recorded_same db.trees after.trees
      (outcomes_same db after place at adds) other held)
