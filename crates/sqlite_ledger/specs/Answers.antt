-- The answers of a file.
--     IsControlState    a number that is a state of the control
--     IsAnswerIn        the answer of a row that was read
--     select_answers    the query of all answers
--     select_last       the query of the greatest number
--     AreShown          the answers that a query of all answers shows
--     IsLast            the number in the row of the greatest number
--     ShowsLast         the number that the query of the greatest number shows
--     answer_row        the row of an answer
--     IsRecorded        the trees have the answer
--     IsSafe            all trees that a crash may leave have it
--     answer_rows       the rows of the answers that a connection sees
--     AddsAnswers       rows and the same with answers put in, and no others
use Rattle.std.specs.Prelude.{◌≡◌, ◌<◌, ◌≤◌, ◌^◌, ℕ, ℤ, pos, false, List, [], ◌∷◌, codes}
use Rattle.std.specs.Prelude.{Option, Some, None, unwrap_or}
use Rattle.std.specs.List.{AllZip}
use Rattle.sqlite.specs.declared.types.Value.TheVariants.{Null, Int, Text as Words}
use Rattle.sqlite.specs.Edit.{is_taken}
use Rattle.sqlite.specs.Order.{Row, column}
use Rattle.sqlite.specs.State.{State, Shown}
use Rattle.sqlite.specs.Values.{or_null}
use Rattle.sqlite.specs.Tree.{Trees, put_row}
use Rattle.sqlite_rules.specs.Lists.{Has}
use Rattle.ledger_reports.specs.declared.answer.StateAnswer.{StateAnswer}
use Rattle.sqlite_ledger.specs.AnswersSchema.{answer_tree}

-- whether a number is a state of the control: disconnected, connected or ready for reconnection
-- (IEC 62056-6-2, class 70, control_state)
abbrev pub IsControlState : ℕ → Type 0
IsControlState state = state ≤ 2

-- Whether a row that was read has this answer: the name, the address, the state, which is one of
-- the control, and the second of the asking, which is not known if it is 0.
pub record IsAnswerIn (row : Row) (answer : StateAnswer) : Type 0 where
  pub name_is : column row 0 ≡ Words answer.name
  pub address_is : column row 1 ≡ Words answer.address
  pub state_is : column row 2 ≡ Int (pos answer.answer.state)
  pub is_state : IsControlState answer.answer.state
  pub not_known : column row 3 ≡ Int (pos 0) → answer.answer.asked_at ≡ None
  pub asked_is : (second : ℕ) → 0 < second → second < 2 ^ 32 → column row 3 ≡ Int (pos second)
      → answer.answer.asked_at ≡ Some second

-- the query of all answers, the one with the first number first
abbrev pub select_answers : List ℕ
select_answers = codes "SELECT name, address, state, asked_at FROM answer ORDER BY number"

-- the query of the greatest number, which is NULL without an answer
abbrev pub select_last : List ℕ
select_last = codes "SELECT max(number) FROM answer"

-- whether this is the number in the row of the greatest number, or 0 if it is NULL or there is no
-- row
abbrev pub IsLast : List Row → ℕ → Type 0
IsLast [] last = last ≡ 0
IsLast (row ∷ rows) last = (number : Option ℕ) × (column row 0 ≡ or_null (λ n. Int (pos n)) number)
    × (last ≡ unwrap_or number 0)

-- whether this is the number that the query of the greatest number shows
pub record ShowsLast (old new : State) (last : ℕ) : Type 0 where
  pub rows : List Row
  pub shown : Shown select_last [] old new rows
  pub is_last : IsLast rows last

-- whether these are the answers of the rows that the query of all answers shows, one for each row,
-- in their order
pub record AreShown (old new : State) (answers : List StateAnswer) : Type 0 where
  pub rows : List Row
  pub shown : Shown select_answers [] old new rows
  pub answers_are : AllZip IsAnswerIn rows answers

-- the second of an asking as the file has it: 0 if it is not known
abbrev pub second_of : Option ℕ → ℕ
second_of None = 0
second_of (Some second) = second

-- a row is its key, and then its columns, of which the one of the key is NULL
abbrev pub answer_row : ℤ → StateAnswer → Row
answer_row number answer = Int number ∷ Null ∷ Words answer.name ∷ Words answer.address
    ∷ Int (pos answer.answer.state) ∷ Int (pos (second_of answer.answer.asked_at)) ∷ []

-- whether the trees have this answer, with any number
abbrev pub IsRecorded : Trees → StateAnswer → Type 0
IsRecorded db answer = (number : ℤ) × Has (db answer_tree) (answer_row number answer)

-- whether this answer is in all trees that a crash may leave
abbrev pub IsSafe : (Trees → Type 0) → StateAnswer → Type 0
IsSafe may_leave answer = (db : Trees) → may_leave db → IsRecorded db answer

-- the rows of the table of the answers that a connection sees
abbrev pub answer_rows : State → List Row
answer_rows s = s.now.trees answer_tree

-- whether the new rows are the old ones and one for each of these answers, which were put in one
-- after the other, each with a number that no row had
abbrev pub AddsAnswers : List Row → List StateAnswer → List Row → Type 0
AddsAnswers old [] new = new ≡ old
AddsAnswers old (answer ∷ answers) new = (number : ℤ)
    × (is_taken old (answer_row number answer) ≡ false)
    × AddsAnswers (put_row (answer_row number answer) old) answers new
