-- What is read of a ledger's file, and of the file of answers next to it.
--     AreLinesRead      the lines that a connection to a ledger shows
--     AreAnswersRead    the answers that a connection to a file of answers shows
--     IsReadFrom        something was read over a connection that an open made
--     AreLinesFrom      lines that were read so
--     AreAnswersFrom    answers that were read so
use Rattle.std.specs.Prelude.{◌≡◌, ◌⊎◌, List, []}
use Rattle.sqlite_disk.specs.declared.Disk.{Ghosts}
use Rattle.sqlite.specs.declared.FileStore.{FileStore}
use Rattle.sqlite.specs.Held.{Held}
use Rattle.sqlite.specs.Files.{file_state, IsOpened}
use Rattle.sqlite.specs.Recovery.{Image}
use Rattle.sqlite.specs.Start.{FindsIn}
use Rattle.sqlite.specs.State.{State, HasCleanDisk}
use Rattle.ledger_reports.specs.declared.answer.StateAnswer.{StateAnswer}
use Rattle.ledger_reports.specs.declared.line.LedgerLine.{LedgerLine}
use Rattle.sqlite_ledger.specs.Answers.{AreShown}
use Rattle.sqlite_ledger.specs.AnswersSchema.{answers_schema}
use Rattle.sqlite_ledger.specs.Lines.{ShowsLines}
use Rattle.sqlite_ledger.specs.Schema.{ledger_schema}

-- Whether these are the lines that a connection shows, whose schema is a ledger's. If the disk
-- returned what was written until then, it did so before.
pub record AreLinesRead {H : Type 0} (state_of : H → State) (was : H) (lines : List LedgerLine) :
    Type 0 where
  pub schema_is : (state_of was).now.schema ≡ ledger_schema
  pub now : H
  pub clean : HasCleanDisk (state_of now) → HasCleanDisk (state_of was)
  pub shown : HasCleanDisk (state_of now) → ShowsLines state_of was now lines

-- Whether these are the answers that a connection shows, whose schema is that of a file of answers,
-- or none if it has no table. If the disk returned what was written until then, it did so before.
pub record AreAnswersRead {H : Type 0} (state_of : H → State) (was : H)
    (answers : List StateAnswer) : Type 0 where
  pub schema_is : ((state_of was).now.schema ≡ answers_schema)
      ⊎ (((state_of was).now.schema.tables ≡ []) × (answers ≡ []))
  pub now : H
  pub clean : HasCleanDisk (state_of now) → HasCleanDisk (state_of was)
  pub shown : HasCleanDisk (state_of now) → (state_of was).now.schema ≡ answers_schema
      → AreShown (state_of was) (state_of now) answers

-- Whether something was read over a connection that an open made. If the disk returned what was
-- written, the open found what the files held.
pub record IsReadFrom {D : Type 0} (g : Ghosts D) (held : Image)
    (IsRead : Held (FileStore D g) → Type 0) : Type 0 where
  pub was : Held (FileStore D g)
  pub opened : HasCleanDisk (file_state was) → IsOpened was
  pub found : HasCleanDisk (file_state was) → FindsIn held (file_state was)
  pub read : IsRead was

-- whether these lines were read of a ledger over a connection that an open made
abbrev pub AreLinesFrom : {D : Type 0} → Ghosts D → Image → List LedgerLine → Type 0
AreLinesFrom g held lines =
    IsReadFrom g held (λ was. AreLinesRead (λ conn. file_state conn) was lines)

-- whether these answers were read over a connection that an open made, or are none
abbrev pub AreAnswersFrom : {D : Type 0} → Ghosts D → Image → List StateAnswer → Type 0
AreAnswersFrom g held answers = (answers ≡ [])
    ⊎ IsReadFrom g held (λ was. AreAnswersRead (λ conn. file_state conn) was answers)
