-- The fields of a record, by the entry of a job, its times and its answer.
--     outcome_word     the outcome as a word
--     outcome_number   the number of the outcome, if it has one
--     sent_word        whether the request was sent
--     seconds_taken    the seconds from the mark to the outcome
--     utc_text         a second since 1970 as a date and time in UTC
--     answer_state     the state that the meter reported later
--     answer_time      when that asking began
use Rattle.std.specs.Prelude.{ℕ, nat_le, ◌-◌, codes, List, ◌++◌, Option, Some, None}
use Rattle.std.specs.Prelude.{if◌then◌else◌}
use Rattle.client_core.specs.declared.job.Outcome.TheVariants as outcome
use Rattle.campaign_ledger.specs.declared.entry.LedgerEntry.{LedgerEntry}
use Rattle.campaign_ledger.specs.declared.entry.LedgerEntry.TheVariants as entry
use Rattle.cosem_datetime.specs.Calendar.{day_count}
use Rattle.record_parts.specs.Civil.{civil_text}
use Rattle.ledger_reports.specs.declared.line.LedgerTimes.{LedgerTimes}
use Rattle.ledger_reports.specs.declared.line.MeterState.{MeterState}
use Rattle.ledger_reports.specs.declared.state.Standing.{Standing}
use Rattle.ledger_reports.specs.declared.state.Standing.TheVariants.{Done, Refused, Rejected}
use Rattle.ledger_reports.specs.declared.state.Standing.TheVariants.{Unknown, NotSent}

-- the word for the standing of a job in the column `outcome`
abbrev pub outcome_word : Standing → List ℕ
outcome_word Done = codes "done"
outcome_word Refused = codes "refused"
outcome_word Rejected = codes "rejected"
outcome_word Unknown = codes "unknown"
outcome_word NotSent = codes "not sent"

-- whether the request of a job was sent: the meter answered it; the meter opened no association, or
-- the job was not begun; or it may have been sent
abbrev pub sent_word : Standing → List ℕ
sent_word Done = codes "yes"
sent_word Refused = codes "yes"
sent_word Rejected = codes "no"
sent_word Unknown = codes "maybe"
sent_word NotSent = codes "no"

-- the number of the outcome, if it has one
abbrev pub outcome_number : LedgerEntry → Option ℕ
outcome_number entry.NotSent = None
outcome_number entry.MaybeSent = None
outcome_number (entry.Came (outcome.Done number)) = Some number
outcome_number (entry.Came (outcome.Refused number)) = Some number
outcome_number (entry.Came (outcome.Rejected number)) = Some number
outcome_number (entry.Came outcome.Unknown) = None

-- the seconds from one time to another, unless the clock was set back between them
abbrev pub seconds_between : Option ℕ → Option ℕ → Option ℕ
seconds_between (Some begun) (Some ended) =
    if nat_le begun ended then Some (ended - begun) else None
seconds_between (Some begun) None = None
seconds_between None ended = None

-- the seconds from the mark to the outcome
abbrev pub seconds_taken : LedgerTimes → Option ℕ
seconds_taken times = seconds_between times.begun times.ended

-- the day number of 1 January 1970, from which the seconds of a ledger count
unfoldable pub first_day_of_1970 : ℕ
first_day_of_1970 = day_count (record { year = 1970; month = 1; day = 1 })

-- a second since the beginning of 1970, YYYY-MM-DDThh:mm:ssZ (ISO 8601)
abbrev pub utc_text : ℕ → List ℕ
utc_text second = civil_text first_day_of_1970 second ++ codes "Z"

-- the control state that the meter reported when it was asked later, if it did
abbrev pub answer_state : Option MeterState → Option ℕ
answer_state (Some answer) = Some answer.state
answer_state None = None

-- when that asking began, if the clock could be read then
abbrev pub answer_time : Option MeterState → Option ℕ
answer_time (Some answer) = answer.asked_at
answer_time None = None
