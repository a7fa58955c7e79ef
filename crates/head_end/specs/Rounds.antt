-- The rounds of a campaign: jobs of one address run one after the other, in the order of the list.
--     round_of          the round of a job: the number of earlier jobs with its address
--     AreRounds         the rounds of all jobs
--     HaveJobs          no round is without a job
--     RunInOrder        of two jobs of one address the earlier one has the earlier round
--     IsRoundRun        the effect of a round on a slot
--     IsRunUpTo         the state of a slot after some rounds
use Rattle.std.specs.Prelude.{◌≡◌, ◌<◌, ◌≤◌, ℕ, if◌then◌else◌, List, length, take, slice_index_or}
use Rattle.std.specs.Prelude.{bytes_eq, Option}
use Rattle.std.specs.List.{sum_by, Contains}
use Rattle.client_core.specs.declared.job.Job.{Job}
use Rattle.head_end.specs.declared.row.Row.{Row}
use Rattle.head_end.specs.Attempts.{State, unused}
use Rattle.head_end.specs.Campaigns.{place_at, IsRun}
use Rattle.head_end.specs.Connections.{Forecast}

-- 1 for a job with this address, else 0
abbrev pub one_at : List ℕ → Job → ℕ
one_at address job = if bytes_eq job.address address then 1 else 0

-- the number of jobs with this address
abbrev pub count_at : List ℕ → List Job → ℕ
count_at address jobs = sum_by (one_at address) jobs

-- the round of the job at a place: the number of earlier jobs with its address
abbrev pub round_of : List Job → ℕ → List ℕ → ℕ
round_of jobs place address = count_at address (take place jobs)

-- whether these are the rounds of all jobs, each less than `count`
pub record AreRounds (jobs : List Job) (rounds : List ℕ) (count : ℕ) : Type 0 where
  pub len : length rounds ≡ length jobs
  pub each : (i : ℕ) (job : Job) → i < length jobs
      → slice_index_or rounds i 0 ≡ round_of jobs i (slice_index_or jobs i job).address
  pub below : (i : ℕ) → i < length jobs → slice_index_or rounds i 0 < count

-- whether each round below `count` is that of a job
abbrev pub HaveJobs : List ℕ → ℕ → Type 0
HaveJobs rounds count = (round : ℕ) → round < count → Contains rounds round

-- of two jobs of one address the earlier one has the earlier round: a round has no address twice
abbrev pub RunInOrder : Type 0
RunInOrder = (jobs : List Job) (rounds : List ℕ) (count i j : ℕ) (job : Job)
    → AreRounds jobs rounds count → i < j → j < length jobs
    → (slice_index_or jobs i job).address ≡ (slice_index_or jobs j job).address
    → slice_index_or rounds i 0 < slice_index_or rounds j 0

-- whether the job of a slot has this round
abbrev pub IsTurn : (turns workers : ℕ) → List ℕ → ℕ → ℕ → Type 0
IsTurn turns workers rounds round slot = (place_at turns workers slot < length rounds)
    × (slice_index_or rounds (place_at turns workers slot) 0 ≡ round)

-- whether the attempts of the jobs of a round are unused
abbrev pub AreWaiting : {X : Type 0} → (turns workers : ℕ) → List ℕ → ℕ → (X → State) → List X
    → Type 0
AreWaiting {X} turns workers rounds round stage_of slots = (slot : ℕ) (x : X)
    → slot < length slots → IsTurn turns workers rounds round slot
    → stage_of (slice_index_or slots slot x) ≡ unused

-- whether a round ran the job of a slot if the job has this round, and left the slot unchanged
-- otherwise
pub record IsRoundRun (turns workers : ℕ) (jobs : List Job) (passwords : List (List ℕ))
    (rounds : List ℕ) (round slot : ℕ) (tells tells' : List ℕ → Option Forecast)
    (stage stage' : State) (row row' : Row) : Type 0 where
  pub ran : IsTurn turns workers rounds round slot
      → IsRun turns workers jobs passwords slot tells stage' row'
  pub others : ¬ (IsTurn turns workers rounds round slot) → (stage' ≡ stage) × (row' ≡ row)
  pub tells_is : tells' ≡ tells

-- whether the job of a slot was run if its round is before this one, and the attempt is unused
-- otherwise
pub record IsRunUpTo (turns workers : ℕ) (jobs : List Job) (passwords : List (List ℕ))
    (rounds : List ℕ) (round slot : ℕ) (tells tells' : List ℕ → Option Forecast) (stage : State)
    (row : Row) : Type 0 where
  pub ran : place_at turns workers slot < length rounds
      → slice_index_or rounds (place_at turns workers slot) 0 < round
      → IsRun turns workers jobs passwords slot tells stage row
  pub waits : place_at turns workers slot < length rounds
      → round ≤ slice_index_or rounds (place_at turns workers slot) 0 → stage ≡ unused
  pub free : length rounds ≤ place_at turns workers slot → stage ≡ unused
  pub tells_is : tells' ≡ tells
