-- Answers that are appended over a connection to a file of answers.
use Rattle.std.proofs.Common.{◌≡◌, ◌∙◌, List, [], ◌∷◌, Result, Ok, Err, OnOk}
use Rattle.std.proofs.Common.{sym, ap, subst}
use Rattle.std.specs.List.{AllByRecursion}
use Rattle.sqlite_disk.specs.declared.Disk.{Ghosts}
use Rattle.sqlite.specs.Recovery.{Image}
use Rattle.sqlite.specs.Tree.{Trees}
use Rattle.sqlite.specs.Effect.{Database}
use Rattle.sqlite.specs.State.{State, HasCleanDisk, IsUnchanged}
use Rattle.sqlite_ledger.proofs.InsertStates.{IsSettled}
use Rattle.ledger_reports.specs.declared.answer.StateAnswer.{StateAnswer}
use Rattle.sqlite.specs.Order.{Row}
use Rattle.sqlite_ledger.specs.Answers.{AddsAnswers, IsRecorded, IsSafe, answer_rows}
use Rattle.sqlite_ledger.specs.AnswersSchema.{answer_tree, answers_schema}
use Rattle.ledger_files.specs.Answered.{AreAppended, AreAppendedTo, AreRecorded}

module _ (old new : State) (same : IsUnchanged old new) where
  -- what a query leaves unchanged has the schema that it had
  schema_after : old.now.schema ≡ answers_schema → new.now.schema ≡ answers_schema
  schema_after has = ap (λ (d : Database). d.schema) same.0.now_is ∙ has

  -- and the same rows
  rows_after : answer_rows new ≡ answer_rows old
  rows_after = ap (λ (d : Database). d.trees answer_tree) same.0.now_is

  -- an answer that every crash left before a query, every crash leaves after it
  safe_after : IsSettled old → IsSettled new → (other : StateAnswer)
      → IsSafe old.may_leave other → IsSafe new.may_leave other
  safe_after start end other safe db left =
      let is : db ≡ old.committed.trees = end.settled same.0.is_open db left ∙ ap (λ (d :
      Database). d.trees) same.0.committed_is in
      subst (λ (d : Trees). IsRecorded d other) (sym is)
      (safe old.committed.trees (start.stays same.0.was_open))

-- Answers are appended after the table was made or tested (`start`), and the number of the last
-- answer was read (`mid`).
pub appends : {T F : Type 0} (old start mid new : State) (answers : List StateAnswer)
    (result : Result T F) → IsSettled start → IsSettled mid → start.now.schema ≡ answers_schema
    → (old.now.schema ≡ answers_schema → HasCleanDisk start → HasCleanDisk old)
    → (old.now.schema ≡ answers_schema → (other : StateAnswer) → IsSafe old.may_leave other
    → IsSafe start.may_leave other)
    → (HasCleanDisk mid → HasCleanDisk start)
    → (HasCleanDisk mid → start.now.schema ≡ answers_schema → IsUnchanged start mid)
    → (HasCleanDisk new → HasCleanDisk mid)
    → (HasCleanDisk new → mid.now.schema ≡ answers_schema
    → OnOk result (AllByRecursion (IsSafe new.may_leave) answers))
    → (HasCleanDisk new → mid.now.schema ≡ answers_schema → (other : StateAnswer)
    → IsSafe mid.may_leave other → IsSafe new.may_leave other)
    → (old.now.schema ≡ answers_schema → answer_rows start ≡ answer_rows old)
    → (HasCleanDisk new → mid.now.schema ≡ answers_schema
    → OnOk result (AddsAnswers (answer_rows mid) answers (answer_rows new)))
    → OnOk result (AreAppended old new answers)
appends old start mid new answers (Ok done) at_start at_mid has clean_old safe_old clean_start same
    clean_mid recorded remains rows added = record {
      recorded = λ clean. recorded clean (schema_after start mid (same (clean_mid clean) has) has);
      clean = λ clean was. clean_old was (clean_start (clean_mid clean));
      remain = λ clean was other safe. remains clean
          (schema_after start mid (same (clean_mid clean) has) has) other
          (safe_after start mid (same (clean_mid clean) has) at_start at_mid other
          (safe_old was other safe));
      added = λ clean was.
          subst (λ (from : List Row). AddsAnswers from answers (answer_rows new))
          (rows_after start mid (same (clean_mid clean) has) ∙ rows was)
          (added clean (schema_after start mid (same (clean_mid clean) has) has));
    }
appends old start mid new answers (Err fault) at_start at_mid has clean_old safe_old clean_start
    same clean_mid recorded remains rows added = tt

-- what holds, holds if a result is Ok
pub if_ok : {T F A : Type 0} (result : Result T F) → A → OnOk result A
if_ok (Ok done) holds = holds
if_ok (Err fault) holds = tt

-- answers that were appended are recorded
pub recorded : {T F D : Type 0} (g : Ghosts D) (held : Image) (answers : List StateAnswer)
    (result : Result T F) → OnOk result (AreAppendedTo g held answers)
    → OnOk result (AreRecorded g held answers)
recorded g held [] (Ok done) holds = tt
recorded g held (answer ∷ answers) (Ok done) holds = holds
recorded g held answers (Err fault) holds = tt
