-- Answers that are appended to the file next to a ledger.
--     AreAppended       the answers were appended over a connection
--     AreAppendedTo     they were appended over a connection that an open made
--     AreRecorded       they were, unless there are none
use Rattle.std.specs.Prelude.{◌≡◌, List, [], ◌∷◌, ⊤}
use Rattle.std.specs.List.{AllByRecursion}
use Rattle.sqlite_disk.specs.declared.Disk.{Ghosts}
use Rattle.sqlite.specs.declared.FileStore.{FileStore}
use Rattle.sqlite.specs.Held.{Held}
use Rattle.sqlite.specs.Files.{file_state, IsOpened}
use Rattle.sqlite.specs.Recovery.{Image}
use Rattle.sqlite.specs.Start.{FindsIn}
use Rattle.sqlite.specs.State.{State, HasCleanDisk}
use Rattle.ledger_reports.specs.declared.answer.StateAnswer.{StateAnswer}
use Rattle.sqlite_ledger.specs.Answers.{AddsAnswers, IsSafe, answer_rows}
use Rattle.sqlite_ledger.specs.AnswersSchema.{answers_schema}

-- Whether these answers were appended between two states of a connection. If the disk returned what
-- was written, whatever a crash leaves then has each of them. If the database was a file of answers
-- before, the disk was honest then too, what each crash left remains, and the table has a row more
-- for each of them and no other.
pub record AreAppended (old new : State) (answers : List StateAnswer) : Type 0 where
  pub recorded : HasCleanDisk new → AllByRecursion (IsSafe new.may_leave) answers
  pub clean : HasCleanDisk new → old.now.schema ≡ answers_schema → HasCleanDisk old
  pub remain : HasCleanDisk new → old.now.schema ≡ answers_schema → (other : StateAnswer)
      → IsSafe old.may_leave other → IsSafe new.may_leave other
  pub added : HasCleanDisk new → old.now.schema ≡ answers_schema
      → AddsAnswers (answer_rows old) answers (answer_rows new)

-- Whether these answers were appended over a connection that an open made. If the disk returned
-- what was written, the open found what the files held.
pub record AreAppendedTo {D : Type 0} (g : Ghosts D) (held : Image) (answers : List StateAnswer) :
    Type 0 where
  pub was : Held (FileStore D g)
  pub now : Held (FileStore D g)
  pub opened : HasCleanDisk (file_state was) → IsOpened was
  pub found : HasCleanDisk (file_state was) → FindsIn held (file_state was)
  pub appended : AreAppended (file_state was) (file_state now) answers

-- whether these answers were appended to the file of answers; without answers nothing is done
abbrev pub AreRecorded : {D : Type 0} → Ghosts D → Image → List StateAnswer → Type 0
AreRecorded g held [] = ⊤
AreRecorded g held (answer ∷ answers) = AreAppendedTo g held (answer ∷ answers)
