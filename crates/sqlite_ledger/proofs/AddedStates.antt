-- Answers that are appended one by one.
use Rattle.std.proofs.Common.{◌≡◌, ◌<◌, ◌+◌, ℕ, List, [], ◌∷◌, ◌++◌, take, length, slice_index_or}
use Rattle.std.proofs.Common.{refl, sym, subst, arith}
use Rattle.std.proofs.lemmas.Grind.{common_steps}
use Rattle.std.specs.List.{AllByRecursion}
use Rattle.sqlite.specs.State.{State, HasCleanDisk}
use Rattle.ledger_reports.specs.declared.answer.StateAnswer.{StateAnswer}
use Rattle.sqlite.specs.Order.{Row}
use Rattle.sqlite.specs.Tree.{put_row}
use Rattle.sqlite_ledger.specs.Answers.{answer_row, answer_rows, AddsAnswers, IsSafe}
use Rattle.sqlite_ledger.specs.AnswersSchema.{answers_schema}

-- what holds of all, if it is kept and holds of one more
all_more : (P Q : StateAnswer → Type 0) (answers : List StateAnswer) (answer : StateAnswer)
    → ((other : StateAnswer) → P other → Q other) → AllByRecursion P answers → Q answer
    → AllByRecursion Q (answers ++ answer ∷ [])
all_more P Q [] answer keeps all one = (one, tt)
all_more P Q (first ∷ answers) answer keeps all one =
    (keeps first all.0, all_more P Q answers answer keeps all.1 one)

-- one answer more is put in
added_more : (old mid new : List Row) (answers : List StateAnswer) (answer : StateAnswer)
    → AddsAnswers old answers mid → AddsAnswers mid (answer ∷ []) new
    → AddsAnswers old (answers ++ answer ∷ []) new
added_more old mid new [] answer before one =
    subst (λ (rows : List Row). AddsAnswers rows (answer ∷ []) new) before one
added_more old mid new (first ∷ answers) answer before one = (
  before.0,
  before.1,
  added_more (put_row (answer_row before.0 first) old) mid new answers answer before.2 one,
)

-- These answers were appended between two states. What was recorded before remains.
pub record Adds (old new : State) (answers : List StateAnswer) : Type 0 where
  pub clean : HasCleanDisk new → HasCleanDisk old
  pub schema : HasCleanDisk new → old.now.schema ≡ answers_schema → new.now.schema ≡ answers_schema
  pub recorded : HasCleanDisk new → old.now.schema ≡ answers_schema
      → AllByRecursion (IsSafe new.may_leave) answers
  pub remains : HasCleanDisk new → old.now.schema ≡ answers_schema → (other : StateAnswer)
      → IsSafe old.may_leave other → IsSafe new.may_leave other
  pub added : HasCleanDisk new → old.now.schema ≡ answers_schema
      → AddsAnswers (answer_rows old) answers (answer_rows new)

-- One answer was appended.
pub record AddsOne (old new : State) (answer : StateAnswer) : Type 0 where
  pub clean : HasCleanDisk new → HasCleanDisk old
  pub schema : HasCleanDisk new → old.now.schema ≡ answers_schema → new.now.schema ≡ answers_schema
  pub recorded : HasCleanDisk new → old.now.schema ≡ answers_schema → IsSafe new.may_leave answer
  pub remains : HasCleanDisk new → old.now.schema ≡ answers_schema → (other : StateAnswer)
      → IsSafe old.may_leave other → IsSafe new.may_leave other
  pub added : HasCleanDisk new → old.now.schema ≡ answers_schema
      → AddsAnswers (answer_rows old) (answer ∷ []) (answer_rows new)

pub adds_none : (s : State) → Adds s s []
adds_none s = record {
  clean = λ clean. clean;
  schema = λ clean has. has;
  recorded = λ clean has. tt;
  remains = λ clean has other safe. safe;
  added = λ clean has. refl;
}

-- one more answer
pub adds_more : (old mid new : State) (answers : List StateAnswer) (i : ℕ) (answer : StateAnswer)
    → i < length answers → answer ≡ slice_index_or answers i answer → Adds old mid (take i answers)
    → AddsOne mid new answer → Adds old new (take (i + 1) answers)
adds_more old mid new answers i answer below is before one =
    let more : take (i + 1) answers ≡ take i answers ++ answer ∷ [] = grind (arith, common_steps) in
    record {
      clean = λ clean. before.clean (one.clean clean);
      schema = λ clean has. one.schema clean (before.schema (one.clean clean) has);
      recorded = λ clean has. subst (AllByRecursion (IsSafe new.may_leave)) (sym more)
          (all_more (IsSafe mid.may_leave) (IsSafe new.may_leave) (take i answers) answer
          (one.remains clean (before.schema (one.clean clean) has))
          (before.recorded (one.clean clean) has)
          (one.recorded clean (before.schema (one.clean clean) has)));
      remains = λ clean has other safe.
          one.remains clean (before.schema (one.clean clean) has) other
          (before.remains (one.clean clean) has other safe);
      added = λ clean has.
          subst (λ (list : List StateAnswer). AddsAnswers (answer_rows old) list (answer_rows new))
          (sym more)
          (added_more (answer_rows old) (answer_rows mid) (answer_rows new) (take i answers) answer
          (before.added (one.clean clean) has)
          (one.added clean (before.schema (one.clean clean) has)));
    }
