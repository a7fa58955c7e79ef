-- What an INSERT of an outcome does to the marks and the outcomes that a crash leaves.
use Rattle.std.proofs.Common.{◌≡◌, ℕ, ℤ, Ok, Err, Result, OnOk, sym, subst}
use Rattle.sqlite.specs.declared.types.Value.{Value}
use Rattle.sqlite.specs.Tree.{Trees}
use Rattle.sqlite.specs.declared.error.Error.{Error}
use Rattle.sqlite.specs.State.{State, HasCleanDisk, IsUnchanged, Survives, Executes, CommitsBy}
use Rattle.client_core.specs.declared.job.Outcome.{Outcome}
use Rattle.sqlite_ledger.specs.Schema.{ledger_schema, outcome_tree}
use Rattle.sqlite_ledger.specs.Marks.{IsBegun, IsMarked}
use Rattle.sqlite_ledger.specs.Outcomes.{outcome_row, IsRecorded, IsSafe}
use Rattle.sqlite_ledger.proofs.MarkLemmas.{begun_same}
use Rattle.sqlite_ledger.proofs.OutcomeLemmas.{outcome_text, outcome_source, outcome_params}
use Rattle.sqlite_ledger.proofs.OutcomeLemmas.{outcome_is, outcome_plain, outcome_does, marks_same}
use Rattle.sqlite_ledger.proofs.OutcomeLemmas.{recorded, recorded_kept}
use Rattle.sqlite_ledger.specs.AtRest.{IsAtRest}
use Rattle.sqlite_ledger.proofs.InsertStates.{IsSettled, IsInsert}
use Rattle.sqlite_ledger.proofs.InsertStates as insert

ending : (place : ℤ) (outcome : Outcome) (at : Value) → IsInsert outcome_text (outcome_params place
    outcome at) 1 outcome_source outcome_tree (outcome_row place outcome at)
ending place outcome at = record {
  is = outcome_is;
  plain = outcome_plain;
  does = outcome_does place
      outcome at;
}

module _ (old mid new : State) (place : ℤ) (outcome : Outcome) (at : Value) (has : old.now.schema ≡
    ledger_schema) (rest : IsAtRest old) (same : IsUnchanged old mid) where
  pub safe : (r : Result ℕ Error) → Executes outcome_text (outcome_params place outcome at) mid new
      r → IsSettled new → OnOk r (IsSafe new.may_leave place outcome)
  safe (Ok count) h settled = λ db left.
      subst (λ (d : Trees). IsRecorded d place outcome) (sym (insert.left_is _ _ _ _ _ _ (ending
      place outcome at) old mid new has rest same count h settled db left)) (
        at,
        recorded mid.now new.now (outcome_row place outcome at) (insert.adds _ _ _ _ _ _ (ending
            place outcome at) old mid new has rest same count h),
      )
  safe (Err e) h settled = tt

  pub schema : (r : Result ℕ Error) → Executes outcome_text (outcome_params place outcome at) mid
      new r → OnOk r (new.now.schema ≡ ledger_schema)
  schema = insert.schema _ _ _ _ _ _ (ending place outcome at) old mid new has rest same

  pub kept : IsSettled old → HasCleanDisk new → Survives old mid (λ _. ⊥) → Survives mid new
      (CommitsBy outcome_text (outcome_params place outcome at) mid) → (other : ℤ) → IsMarked
      old.may_leave other → IsMarked new.may_leave other
  kept start clean first second other =
      insert.kept _ _ _ _ _ _ (ending place outcome at) old mid new has rest same start clean first
      second (λ d. IsBegun d other)
      (λ db after adds. begun_same db.trees after.trees (marks_same db after (outcome_row place
      outcome at) adds) other)

  pub remains : IsSettled old → HasCleanDisk new → Survives old mid (λ _. ⊥) → Survives mid new
      (CommitsBy outcome_text (outcome_params place outcome at) mid) → (other : ℤ)
      (held : Outcome) → IsSafe old.may_leave other held → IsSafe new.may_leave other held
  remains start clean first second other held =
      insert.kept _ _ _ _ _ _ (ending place outcome at) old mid new has rest same start clean first
      second (λ d. IsRecorded d other held)
      (λ db after adds. recorded_kept db after (outcome_row place outcome at) adds other held)
