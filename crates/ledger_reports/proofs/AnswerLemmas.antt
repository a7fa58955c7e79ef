-- The latest answer to a line, when one more answer comes, and lines that get their answers one by
-- one.
use Rattle.std.proofs.Common.{◌≡◌, ◌<◌, ◌≤◌, ◌+◌, ℕ, List, [], ◌∷◌, ◌++◌, take, length, append-nil}
use Rattle.std.proofs.Common.{slice_index_or, Some, true, false, refl, sym, ap, ◌∙◌, arith}
use Rattle.std.proofs.lemmas.List.{flat_map_more}
use Rattle.std.proofs.lemmas.Grind.{common_steps}
use Rattle.std.specs.List.{flat_map}
use Rattle.ledger_reports.specs.Answers.{is_answer_to, last_of, latest_answer, states_of}
use Rattle.ledger_reports.specs.Answers.{with_answer}
use Rattle.ledger_reports.specs.declared.answer.StateAnswer.{StateAnswer}
use Rattle.ledger_reports.specs.declared.line.LedgerLine.{LedgerLine}
use Rattle.ledger_reports.specs.declared.line.MeterState.{MeterState}

-- one more state is the last
last_of_more : (states : List MeterState) (state : MeterState)
    → last_of (states ++ state ∷ []) ≡ Some state
last_of_more [] state = refl
last_of_more (first ∷ []) state = refl
last_of_more (first ∷ next ∷ states) state = last_of_more (next ∷ states) state

take_more : (answers : List StateAnswer) (i : ℕ) (answer : StateAnswer) → i < length answers
    → answer ≡ slice_index_or answers i answer
    → take (i + 1) answers ≡ take i answers ++ answer ∷ []
take_more answers i answer below is = grind (arith, common_steps)

module _ (line : LedgerLine) (answers : List StateAnswer) (i : ℕ) (answer : StateAnswer)
    (below : i < length answers) (is : answer ≡ slice_index_or answers i answer) where
  states_more : flat_map (states_of line) (take (i + 1) answers)
      ≡ flat_map (states_of line) (take i answers) ++ states_of line answer
  states_more = ap (flat_map (states_of line)) (take_more answers i answer below is)
      ∙ sym (flat_map_more (states_of line) [] (take i answers) answer)

  -- an answer to the line is the latest
  pub latest_is : is_answer_to line answer ≡ true
      → latest_answer line (take (i + 1) answers) ≡ Some answer.answer
  latest_is holds = ap last_of states_more ∙ rw holds (last_of_more (flat_map (states_of line) (take
      i answers)) answer.answer)

  -- another answer changes nothing
  pub latest_stays : is_answer_to line answer ≡ false
      → latest_answer line (take (i + 1) answers) ≡ latest_answer line (take i answers)
  latest_stays fails = ap last_of states_more ∙ rw fails (ap last_of (append-nil (flat_map
      (states_of line) (take i answers))))

-- the first lines have their answers, and the others are as they were
pub record Enters (answers : List StateAnswer) (old : List LedgerLine) (done : ℕ)
    (new : List LedgerLine) : Type 0 where
  pub entered : (i : ℕ) (line : LedgerLine) → i < done
      → slice_index_or new i line ≡ with_answer answers (slice_index_or old i line)
  pub others : (i : ℕ) (line : LedgerLine) → done ≤ i
      → slice_index_or new i line ≡ slice_index_or old i line
  pub len : length new ≡ length old
