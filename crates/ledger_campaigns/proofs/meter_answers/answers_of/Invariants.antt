use Rattle.std.proofs.Common.{◌≡◌, ◌++◌, length}
use Rattle.ledger_campaigns.specs.AskedMeters.{answers_of}
use Rattle.ledger_campaigns.proofs.meter_answers.answers_of.Given as goal

-- the questions that are left
abbrev pub decreases-lines : goal.decreases-lines
decreases-lines l = length l.jobs

-- the answers so far, and those that are left
abbrev pub invariant-lines : goal.invariant-lines
invariant-lines l = l.answers.items ++ answers_of l.asked_at l.jobs l.lines
    ≡ answers_of l.fn.asked_at l.fn.jobs l.fn.lines
