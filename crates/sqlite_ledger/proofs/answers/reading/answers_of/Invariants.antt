use Rattle.std.proofs.Common.{take}
use Rattle.std.specs.List.{All, AllZip}
use Rattle.sqlite_ledger.specs.Answers.{IsAnswerIn, IsControlState}
use Rattle.sqlite_ledger.proofs.answers.reading.answers_of.Given as goal

-- the answers so far are those of the rows so far, and their states are the control's
abbrev pub invariant-rows : goal.invariant-rows
invariant-rows l = AllZip IsAnswerIn (take l.row-index l.rows) l.answers.items
    × All (λ answer. IsControlState answer.answer.state) l.answers.items
