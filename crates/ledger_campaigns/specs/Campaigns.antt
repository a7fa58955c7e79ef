-- A campaign on a ledger: its lines, and the uses of its attempts.
--     IsPlaceRun        the result of a place
--     AreLinesFor       the lines of all jobs, in order
--     AreUses           the use of its attempt by each job, and AreUsesBy by what its port asked
--     AreSwitched       places whose switching commands may have been sent in this run
--     Closes            a ledger that was shared: it results from calls, at least those that a port
--                       has seen
--     AreOutcomesIn     the outcomes that calls asked to store are in the ledger
--     AreStored         the outcomes of the jobs that had a conversation are in the ledger
--     IsLedgeredRun     the calls of a run, what they allowed, and what the ledger has at the end
use Rattle.std.specs.Prelude.{◌≡◌, ℕ, ◌<◌, List, length, slice_index_or, Option, Some, IfSome}
use Rattle.std.specs.Prelude.{◌⊎◌, false}
use Rattle.turn_lock.specs.declared.known.Known.{Known}
use Rattle.turn_lock.specs.History.{StartsWith}
use Rattle.turn_lock.specs.Shown.{ShownPort}
use Rattle.client_core.specs.declared.job.Job.{Job}
use Rattle.campaign_ledger.specs.declared.entry.LedgerEntry.{LedgerEntry}
use Rattle.client_core.specs.declared.job.Outcome.{Outcome}
use Rattle.campaign_ledger.specs.Entries.{entry_at}
use Rattle.campaign_ledger.specs.Grants.{LedgerState, Grants}
use Rattle.campaign_ledger.specs.Runs.{IsIn}
use Rattle.head_end.specs.declared.row.Row.{Row}
use Rattle.head_end.specs.declared.row.Row.TheVariants.{Came}
use Rattle.head_end.specs.declared.row.ReportLine.{ReportLine}
use Rattle.head_end.specs.Attempts.{State, unused}
use Rattle.head_end.specs.Connections.{Forecast}
use Rattle.ledger_campaigns.specs.declared.request.LedgerRequest.{LedgerRequest}
use Rattle.ledger_campaigns.specs.declared.request.LedgerRequest.TheVariants.{Record}
use Rattle.ledger_campaigns.specs.declared.request.LedgerAnswer.{LedgerAnswer}
use Rattle.ledger_campaigns.specs.Desks.{LedgerCalls, permits_given, HasRequest, HasOutcome}
use Rattle.ledger_campaigns.specs.Desks.{HasRunOut, IsLegalHistory, Stands}
use Rattle.ledger_campaigns.specs.Uses.{Asked, IsUse, IsRowFor, HasSwitched, asked_through}
use Rattle.ledger_campaigns.specs.Uses.{EndedWith, asked_within}

-- whether the row of a place is that of its job, and the job used its attempt as the entry found at
-- the place and what the port of the place has asked allow
pub record IsPlaceRun {B O : Type 0} (jobs : List Job) (found : List LedgerEntry)
    (passwords : List (List ℕ)) (place : ℕ) (tells : List ℕ → Option Forecast)
    (port : ShownPort LedgerRequest (LedgerAnswer B) O) (row : Row) (stage : State) : Type 0 where
  pub row_is : (job : Job) → IsRowFor tells (slice_index_or jobs place job) (entry_at found place)
      row
  pub use_is : (job : Job) (password : List ℕ) → IsUse (entry_at found place)
      (asked_through place port) (slice_index_or jobs place job)
      (slice_index_or passwords place password) row stage

-- whether a line has the id of the job, and its row by the entry found at its place
pub record IsLineFor (tells : List ℕ → Option Forecast) (job : Job) (found : LedgerEntry)
    (line : ReportLine) : Type 0 where
  pub id_is : line.id ≡ job.id
  pub row_is : IsRowFor tells job found line.row

-- whether line i is that of job i, and there are as many lines as jobs
pub record AreLinesFor (tells : List ℕ → Option Forecast) (jobs : List Job)
    (found : List LedgerEntry) (lines : List ReportLine) : Type 0 where
  pub count : length lines ≡ length jobs
  pub of_jobs : (place : ℕ) (job : Job) (line : ReportLine) → place < length jobs
      → IsLineFor tells (slice_index_or jobs place job) (entry_at found place)
      (slice_index_or lines place line)

-- whether each job used its attempt as the entry found at its place and what was asked of the
-- ledger about this place allow
abbrev pub AreUses : List Job → List LedgerEntry → List (List ℕ) → (ℕ → Asked) → List ReportLine
    → List State → Type 0
AreUses jobs found passwords asked lines stages = (place : ℕ) (job : Job)
    (password : List ℕ) (line : ReportLine) → place < length jobs
    → IsUse (entry_at found place) (asked place) (slice_index_or jobs place job)
    (slice_index_or passwords place password) (slice_index_or lines place line).row
    (slice_index_or stages place unused)

-- whether each job used its attempt as the entry found at its place and what the port of its place
-- has asked allow
abbrev pub AreUsesBy : {B O : Type 0} → List Job → List LedgerEntry → List (List ℕ)
    → List (ShownPort LedgerRequest (LedgerAnswer B) O) → List ReportLine → List State → Type 0
AreUsesBy {B} {O} jobs found passwords ports lines stages =
    (port : ShownPort LedgerRequest (LedgerAnswer B) O)
    → AreUses jobs found passwords (λ place. asked_through place (slice_index_or ports place port))
    lines stages

-- whether the switching commands of these places may have been sent in this run, by the logs of
-- their connections
abbrev pub AreSwitched : List Job → List State → List ℕ → Type 0
AreSwitched jobs stages places = (place : ℕ) → IsIn place places → (place < length jobs)
    × ((job : Job) → HasSwitched (slice_index_or jobs place job).verb
    (slice_index_or stages place unused))

module _ {B : Type 0} (is_honest : B → Type 0) (is_marked : B → ℕ → Type 0)
    (keeps : B → ℕ → Outcome → Type 0) where
  -- whether the ledger was shared in the state `start`, and results from calls that begin with
  -- those that the port has seen
  pub record Closes (known : Known LedgerRequest (LedgerAnswer B) (LedgerState B))
      (now : LedgerState B) : Type 0 where
    pub start : LedgerState B
    pub origin_is : known.origin ≡ Some start
    pub calls : LedgerCalls B
    pub seen : StartsWith calls known.seen
    pub legal : IsLegalHistory is_honest is_marked keeps start calls
    pub results : Stands is_honest is_marked keeps record { ledger = now; start = start } calls

  -- whether each outcome that one of these calls asked to store is in the ledger at the end, if the
  -- ledger has not failed; `start` is the ledger before the calls
  abbrev pub AreOutcomesIn : LedgerState B → LedgerCalls B → LedgerState B → Type 0
  AreOutcomesIn start calls now = now.has_failed ≡ false → (place : ℕ) (outcome : Outcome)
      → place < length start.entries → HasRequest (Record place outcome) calls
      → HasOutcome is_honest is_marked keeps place outcome now

  -- whether the outcome of each job that had a conversation in this run is in the ledger at the
  -- end, unless the port of its place has read that all turns of the lock were drawn
  abbrev pub AreStored : {O : Type 0} → List Job → List ReportLine → List State
      → List (ShownPort LedgerRequest (LedgerAnswer B) O) → LedgerState B → Type 0
  AreStored {O} jobs lines stages ports now = (place : ℕ) (line : ReportLine) (outcome : Outcome)
      (port : ShownPort LedgerRequest (LedgerAnswer B) O) → place < length jobs
      → EndedWith outcome (slice_index_or stages place unused)
      → (slice_index_or lines place line).row ≡ Came outcome
      → HasOutcome is_honest is_marked keeps place outcome now
      ⊎ HasRunOut (slice_index_or ports place port)

  -- Whether a run was made with these calls on its ledger. The calls give each place at most one
  -- permit, and none to a place whose command may have been sent before. Each job used its attempt
  -- as they allow: a switching command is sent with a permit alone, and the outcome of each
  -- conversation is to be stored. The ledger at the end has given these permits, and if it has not
  -- failed, it has these outcomes.
  pub record IsLedgeredRun {O : Type 0} (jobs : List Job) (passwords : List (List ℕ))
      (start : LedgerState B) (now : Option (LedgerState B)) (lines : List ReportLine)
      (stages : List State) (ports : List (ShownPort LedgerRequest (LedgerAnswer B) O))
      : Type 0 where
    pub count : length ports ≡ length jobs
    pub calls : LedgerCalls B
    pub legal : IsLegalHistory is_honest is_marked keeps start calls
    pub uses : (port : ShownPort LedgerRequest (LedgerAnswer B) O)
        → AreUses jobs start.entries passwords
        (λ place. asked_within place calls (slice_index_or ports place port)) lines stages
    pub grants : IfSome now (λ ledger. Grants is_honest is_marked start ledger
        (permits_given calls))
    pub outcomes : IfSome now (AreOutcomesIn start calls)
