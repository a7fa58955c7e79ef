-- The questions to the meters of a ledger whose jobs need a second look.
--     question          asks the meter of a job for its state
--     questions         the questions of all jobs that need a second look
--     IsRefusal         why these questions are not asked
use Rattle.std.specs.Prelude.{ℕ, ◌<◌, List, [], ◌∷◌, length, ⊤}
use Rattle.std.specs.List.{flat_map}
use Rattle.client_core.specs.declared.job.Job.{Job}
use Rattle.client_core.specs.declared.job.Verb.TheVariants.{ReadState}
use Rattle.head_end.specs.declared.fault.JobsFault.{JobsFault}
use Rattle.head_end.specs.declared.fault.JobsFault.TheVariants as fault
use Rattle.ledger_reports.specs.Status.{standing_of}
use Rattle.ledger_reports.specs.declared.line.LedgerLine.{LedgerLine}
use Rattle.ledger_reports.specs.declared.state.Standing.{Standing}
use Rattle.ledger_reports.specs.declared.state.Standing.TheVariants.{Done, Refused, Rejected}
use Rattle.ledger_reports.specs.declared.state.Standing.TheVariants.{Unknown, NotSent}

-- the question to the meter of a job: it has the job's name and address, and reads the state
abbrev pub question : Job → Job
question job = record { id = job.id; address = job.address; verb = ReadState }

-- the question of a job with this standing: only one whose command may have been sent and that has
-- no valid answer has a question
abbrev pub question_for : Job → Standing → List Job
question_for job Done = []
question_for job Refused = []
question_for job Rejected = []
question_for job Unknown = question job ∷ []
question_for job NotSent = []

-- the question of a line, if its job needs a second look
abbrev pub question_in : LedgerLine → List Job
question_in line = question_for line.job (standing_of line.entry)

-- the questions of all lines, in their order
unfoldable pub questions : List LedgerLine → List Job
questions lines = flat_map question_in lines

-- whether the questions of these lines are refused for this cause: `TooMany` only if there are more
-- than 1,000
abbrev pub IsRefusal : List LedgerLine → JobsFault → Type 0
IsRefusal lines fault.TooMany = 1000 < length (questions lines)
IsRefusal lines fault.Memory = ⊤
IsRefusal lines (fault.Line number) = ⊥
