use Rattle.std.proofs.Common.{◌≡◌, take}
use Rattle.std.specs.List.{flat_map}
use Rattle.ledger_campaigns.specs.Questions.{question_in}
use Rattle.ledger_campaigns.proofs.selection.questions_in.Given as goal

-- the questions of the lines so far
abbrev pub invariant-lines : goal.invariant-lines
invariant-lines l = l.jobs ≡ flat_map question_in (take l.line-index l.lines)
