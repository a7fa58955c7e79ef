-- What is read of the lines of a ledger's file.
--     select_begun_times      the query of the times of the marks
--     select_outcome_times    the query of the times of the outcomes
--     IsTimeRow               the place of a mark or an outcome, and its time
--     AreLinesOf              the lines of these jobs, with these entries and times
--     ShowsLines              the lines of the rows that the queries of a ledger show
--     HasLedger               the jobs and the entries that these queries show
use Rattle.std.specs.Prelude.{◌≡◌, ◌<◌, ◌^◌, ℕ, pos, List, [], codes, length, map, replicate}
use Rattle.std.specs.Prelude.{Option, Some, None}
use Rattle.std.specs.List.{All}
use Rattle.sqlite.specs.declared.types.Value.TheVariants.{Int}
use Rattle.sqlite.specs.Order.{Row, column}
use Rattle.sqlite.specs.State.{State, IsUnchanged, Shown}
use Rattle.client_core.specs.declared.job.Job.{Job}
use Rattle.campaign_ledger.specs.declared.entry.LedgerEntry.{LedgerEntry}
use Rattle.ledger_reports.specs.declared.line.LedgerLine.{LedgerLine}
use Rattle.sqlite_ledger.specs.Campaigns.{ShowsCampaign}
use Rattle.sqlite_ledger.specs.Jobs.{AreJobRows, ShowsJobs, select_jobs}
use Rattle.sqlite_ledger.specs.Readings.{EntersShown, ShowsEntries}

-- the query of the times of the marks
abbrev pub select_begun_times : List ℕ
select_begun_times = codes "SELECT place, at FROM begun"

-- the query of the times of the outcomes
abbrev pub select_outcome_times : List ℕ
select_outcome_times = codes "SELECT place, at FROM outcome"

-- whether a row has the time of a place: the second, which is not known if it is 0
pub record IsTimeRow (row : Row) (place : ℕ) (time : Option ℕ) : Type 0 where
  pub place_is : column row 0 ≡ Int (pos place)
  pub not_known : column row 1 ≡ Int (pos 0) → time ≡ None
  pub time_is : (second : ℕ) → 0 < second → second < 2 ^ 32 → column row 1 ≡ Int (pos second)
      → time ≡ Some second

-- whether the lines are those of the jobs of these rows, with these entries and times, and without
-- an answer
pub record AreLinesOf (rows : List Row) (entries : List LedgerEntry)
    (begun ended : List (Option ℕ)) (lines : List LedgerLine) : Type 0 where
  pub jobs_are : AreJobRows 0 rows (map (λ (line : LedgerLine). line.job) lines)
  pub entries_are : map (λ (line : LedgerLine). line.entry) lines ≡ entries
  pub begun_are : map (λ (line : LedgerLine). line.times.begun) lines ≡ begun
  pub ended_are : map (λ (line : LedgerLine). line.times.ended) lines ≡ ended
  pub unanswered : All (λ (line : LedgerLine). line.answer ≡ None) lines

-- Whether these are the lines of a ledger: those of the jobs that a query shows, of which the
-- campaign has the number, with the entries of the marks and the outcomes and with their times,
-- which more queries show. A job has no time of a mark, or of an outcome, unless a row has it.
pub record ShowsLines {H : Type 0} (state_of : H → State) (before after : H)
    (lines : List LedgerLine) : Type 0 where
  pub listed : H
  pub rows : List Row
  pub jobs_shown : Shown select_jobs [] (state_of before) (state_of listed) rows
  pub checked : H
  pub campaign : ShowsCampaign (state_of listed) (state_of checked) (length rows)
  pub entered : H
  pub entries : List LedgerEntry
  pub entries_shown : ShowsEntries state_of checked entered (length rows) entries
  pub timed : H
  pub begun : List (Option ℕ)
  pub begun_shown : EntersShown select_begun_times IsTimeRow (state_of entered) (state_of timed)
      (replicate (length rows) None) begun
  pub ended : List (Option ℕ)
  pub ended_shown : EntersShown select_outcome_times IsTimeRow (state_of timed) (state_of after)
      (replicate (length rows) None) ended
  pub lines_are : AreLinesOf rows entries begun ended lines

-- Whether a ledger has these jobs and these entries: its queries show the jobs and their number,
-- and then the marks and the outcomes that make the entries.
pub record HasLedger {H : Type 0} (state_of : H → State) (before after : H) (jobs : List Job)
    (entries : List LedgerEntry) : Type 0 where
  pub checked : H
  pub jobs_shown : ShowsJobs state_of before checked jobs
  pub unchanged : IsUnchanged (state_of before) (state_of checked)
  pub entries_shown : ShowsEntries state_of checked after (length jobs) entries
