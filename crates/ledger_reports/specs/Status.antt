-- The state of a campaign, by the lines of its ledger.
--     has_standing      a job has this standing, by the entry of its place
--     count_of          the number of jobs with a standing
--     counts_text       the number of the jobs and of each standing
--     state_text        the state that a meter reported when it was asked later
--     look_text         the line of a job that needs a second look
--     second_looks      the lines of all these jobs
--     status_text       the whole text
use Rattle.std.specs.Prelude.{ℕ, Bool, true, false, if◌then◌else◌, List, [], ◌∷◌, ◌++◌, length}
use Rattle.std.specs.Prelude.{codes, decimal, Option, Some, None}
use Rattle.std.specs.List.{flat_map, sum_by}
use Rattle.client_core.specs.declared.job.Job.{Job}
use Rattle.client_core.specs.declared.job.Outcome.TheVariants as outcome
use Rattle.client_core.specs.Verbs.{verb_word}
use Rattle.campaign_ledger.specs.declared.entry.LedgerEntry.{LedgerEntry}
use Rattle.campaign_ledger.specs.declared.entry.LedgerEntry.TheVariants as entry
use Rattle.ledger_reports.specs.declared.line.LedgerLine.{LedgerLine}
use Rattle.ledger_reports.specs.declared.line.MeterState.{MeterState}
use Rattle.ledger_reports.specs.declared.state.Standing.{Standing}
use Rattle.ledger_reports.specs.declared.state.Standing.TheVariants.{Done, Refused, Rejected}
use Rattle.ledger_reports.specs.declared.state.Standing.TheVariants.{Unknown, NotSent}

-- the standing of a job, by the entry of its place
abbrev pub standing_of : LedgerEntry → Standing
standing_of entry.NotSent = NotSent
standing_of entry.MaybeSent = Unknown
standing_of (entry.Came (outcome.Done number)) = Done
standing_of (entry.Came (outcome.Refused number)) = Refused
standing_of (entry.Came (outcome.Rejected number)) = Rejected
standing_of (entry.Came outcome.Unknown) = Unknown

-- whether two standings are the same
abbrev pub is_same : Standing → Standing → Bool
is_same Done Done = true
is_same Refused Refused = true
is_same Rejected Rejected = true
is_same Unknown Unknown = true
is_same NotSent NotSent = true
is_same _ _ = false

-- whether a job with this entry has this standing
abbrev pub has_standing : Standing → LedgerEntry → Bool
has_standing standing entry = is_same (standing_of entry) standing

-- 1 for a job with this standing, else 0
abbrev pub one_in : Standing → LedgerLine → ℕ
one_in standing line = if has_standing standing line.entry then 1 else 0

-- the number of jobs with a standing
abbrev pub count_of : Standing → List LedgerLine → ℕ
count_of standing lines = sum_by (one_in standing) lines

-- a word and a number, ended by the byte 0A
abbrev pub count_line : List ℕ → ℕ → List ℕ
count_line word number = (word ++ decimal number) ++ 10 ∷ []

-- the lines of the numbers: of all jobs, and of those with each standing
abbrev pub counts_text : List LedgerLine → List ℕ
counts_text lines = count_line (codes "jobs ") (length lines)
    ++ (count_line (codes "done ") (count_of Done lines)
    ++ (count_line (codes "refused ") (count_of Refused lines)
    ++ (count_line (codes "rejected ") (count_of Rejected lines)
    ++ (count_line (codes "unknown ") (count_of Unknown lines)
    ++ count_line (codes "not sent ") (count_of NotSent lines)))))

-- a word and a blank
abbrev pub followed_by_blank : List ℕ → List ℕ
followed_by_blank word = word ++ 32 ∷ []

-- the name, the address and the verb of a job, each followed by a blank
abbrev pub job_text : Job → List ℕ
job_text job = followed_by_blank job.id
    ++ (followed_by_blank job.address ++ followed_by_blank (verb_word job.verb))

-- the state that a meter reported when it was asked later; no text without one
abbrev pub state_text : Option MeterState → List ℕ
state_text None = []
state_text (Some answer) = codes "; state " ++ decimal answer.state

-- the line of a job whose command may have been sent and that has no valid answer
abbrev pub unanswered_text : Job → Option MeterState → List ℕ
unanswered_text job answer =
    job_text job ++ (codes "sent, no answer" ++ (state_text answer ++ 10 ∷ []))

-- the line of a job with this standing, or no text if it needs no second look
abbrev pub look_for : LedgerLine → Standing → List ℕ
look_for line Done = []
look_for line Refused = []
look_for line Rejected = []
look_for line Unknown = unanswered_text line.job line.answer
look_for line NotSent = []

-- the line of a job, if it needs a second look
abbrev pub look_text : LedgerLine → List ℕ
look_text line = look_for line (standing_of line.entry)

-- the lines of all jobs that need a second look, in the order of the jobs
unfoldable pub second_looks : List LedgerLine → List ℕ
second_looks lines = flat_map look_text lines

-- the numbers, then the lines of the jobs that need a second look
abbrev pub status_text : List LedgerLine → List ℕ
status_text lines = counts_text lines ++ second_looks lines
