-- The answers of meters that were asked later, and the lines of a ledger that they answer.
--     is_answer_to      an answer is about the job of a line, and came after its command
--     latest_answer     the state of the latest answer to a line
--     with_answer       the line with this state
use Rattle.std.specs.Prelude.{ℕ, Bool, true, ◌&&◌, nat_le, bytes_eq, List, [], ◌∷◌, flat_map}
use Rattle.std.specs.Prelude.{Option, Some, None, if◌then◌else◌}
use Rattle.client_core.specs.declared.job.Job.{Job}
use Rattle.ledger_reports.specs.declared.answer.StateAnswer.{StateAnswer}
use Rattle.ledger_reports.specs.declared.line.LedgerLine.{LedgerLine}
use Rattle.ledger_reports.specs.declared.line.MeterState.{MeterState}

-- whether an answer has the name and the address of a job
abbrev pub is_about : Job → StateAnswer → Bool
is_about job answer = bytes_eq answer.name job.id && bytes_eq answer.address job.address

-- whether a meter was asked no earlier than its job was marked; if one of the times is not known,
-- it counts as asked later
abbrev pub is_later : Option ℕ → Option ℕ → Bool
is_later (Some begun) (Some asked_at) = nat_le begun asked_at
is_later (Some begun) None = true
is_later None asked_at = true

-- whether an answer is about the job of a line, and its meter was asked after the command
abbrev pub is_answer_to : LedgerLine → StateAnswer → Bool
is_answer_to line answer =
    is_about line.job answer && is_later line.times.begun answer.answer.asked_at

-- the states of the answers to a line, the first one first
abbrev pub states_of : LedgerLine → StateAnswer → List MeterState
states_of line answer = if is_answer_to line answer then answer.answer ∷ [] else []

-- the last of these states, if there is one
abbrev pub last_of : List MeterState → Option MeterState
last_of [] = None
last_of (state ∷ []) = Some state
last_of (state ∷ next ∷ states) = last_of (next ∷ states)

-- the state of the last of these answers that is an answer to the line
abbrev pub latest_answer : LedgerLine → List StateAnswer → Option MeterState
latest_answer line answers = last_of (flat_map (states_of line) answers)

-- a line with its latest answer
abbrev pub with_answer : List StateAnswer → LedgerLine → LedgerLine
with_answer answers line = record line { answer = latest_answer line answers }
