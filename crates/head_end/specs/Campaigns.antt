-- The assignment of jobs to workers.
--     place_at          the job of a slot: a worker has consecutive slots, and its jobs are as far
--                       apart as there are workers
--     slot_at           the slot of a job
--     HaveOwnSlots      no two jobs have one slot
--     turns_for         the number of slots of each worker, and slots_for of all workers
--     IsRun             the result of a slot
--     AreTried          the use of their attempts by all jobs, with one password
--     AreTriedWith      their use with a password for each job
use Rattle.std.specs.Prelude.{◌≡◌, ◌+◌, ◌*◌, ◌/◌, ◌%◌, ◌<◌, ◌≤◌, ℕ, List, length, slice_index_or, Option}
use Rattle.client_core.specs.declared.job.Job.{Job}
use Rattle.head_end.specs.declared.row.Row.{Row}
use Rattle.head_end.specs.declared.row.ReportLine.{ReportLine}
use Rattle.head_end.specs.Connections.{Forecast}
use Rattle.head_end.specs.Rows.{IsRow}
use Rattle.head_end.specs.Attempts.{State, unused, IsTried}

-- the job of a slot, if each worker has this number of slots
abbrev pub place_at : (turns workers slot : ℕ) → ℕ
place_at turns workers slot = (slot % turns) * workers + slot / turns

-- the slot of a job
abbrev pub slot_at : (turns workers place : ℕ) → ℕ
slot_at turns workers place = (place % workers) * turns + place / workers

-- two jobs with one slot are the same job: each job has an attempt of its own
abbrev pub HaveOwnSlots : Type 0
HaveOwnSlots = (turns workers i j : ℕ) → 0 < workers → i < turns * workers → j < turns * workers
    → slot_at turns workers i ≡ slot_at turns workers j → i ≡ j

-- the number of slots of each worker, for a number of jobs
abbrev pub turns_for : (jobs workers : ℕ) → ℕ
turns_for jobs workers = jobs / workers + 1

-- the number of slots of all workers together, for a number of jobs
abbrev pub slots_for : (jobs workers : ℕ) → ℕ
slots_for jobs workers = turns_for jobs workers * workers

-- Whether the row and the attempt of a slot are those of its job. The attempt of a slot without a
-- job is unused.
pub record IsRun (turns workers : ℕ) (jobs : List Job) (passwords : List (List ℕ)) (slot : ℕ)
    (tells : List ℕ → Option Forecast) (stage : State) (row : Row) : Type 0 where
  pub row_is : (job : Job) → place_at turns workers slot < length jobs
      → IsRow tells (slice_index_or jobs (place_at turns workers slot) job) row
  pub tried : (job : Job) (password : List ℕ) → place_at turns workers slot < length jobs
      → IsTried (slice_index_or jobs (place_at turns workers slot) job)
      (slice_index_or passwords (place_at turns workers slot) password) row stage
  pub others : length jobs ≤ place_at turns workers slot → stage ≡ unused

-- whether a relation holds between the elements of two lists at each index of the first
abbrev pub EachChange : {X : Type 0} → (ℕ → X → X → Type 0) → List X → List X → Type 0
EachChange {X} R old new = (i : ℕ) (x : X) → i < length old
    → R i (slice_index_or old i x) (slice_index_or new i x)

-- whether each job used the attempt of its slot as its line says, all with one password; the
-- attempts of slots without a job are unused
pub record AreTried (turns workers : ℕ) (jobs : List Job) (password : List ℕ)
    (lines : List ReportLine)
    (stages : List State) : Type 0 where
  pub of_jobs : (i : ℕ) (job : Job) (line : ReportLine) (stage : State) → i < length jobs
      → IsTried (slice_index_or jobs i job) password (slice_index_or lines i line).row
      (slice_index_or stages (slot_at turns workers i) stage)
  pub others : (slot : ℕ) (stage : State) → slot < length stages
      → length jobs ≤ place_at turns workers slot → slice_index_or stages slot stage ≡ unused

-- whether each job used the attempt of its slot as its line says, each with its own password; the
-- attempts of slots without a job are unused
pub record AreTriedWith (turns workers : ℕ) (jobs : List Job) (passwords : List (List ℕ))
    (lines : List ReportLine)
    (stages : List State) : Type 0 where
  pub of_jobs : (i : ℕ) (job : Job) (password : List ℕ) (line : ReportLine) (stage : State)
      → i < length jobs
      → IsTried (slice_index_or jobs i job) (slice_index_or passwords i password)
      (slice_index_or lines i line).row
      (slice_index_or stages (slot_at turns workers i) stage)
  pub others : (slot : ℕ) (stage : State) → slot < length stages
      → length jobs ≤ place_at turns workers slot → slice_index_or stages slot stage ≡ unused
