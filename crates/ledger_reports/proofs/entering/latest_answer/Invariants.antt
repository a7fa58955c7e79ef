use Rattle.std.proofs.Common.{◌≡◌, take}
use Rattle.std.specs.List.{flat_map}
use Rattle.ledger_reports.specs.Answers.{last_of, states_of}
use Rattle.ledger_reports.proofs.entering.latest_answer.Given as goal

-- the last of the answers so far
abbrev pub invariant-answers : goal.invariant-answers
invariant-answers l =
    l.latest ≡ last_of (flat_map (states_of l.line) (take l.answer-index l.answers))
