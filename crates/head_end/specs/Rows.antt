-- The rows of a report, as a function of the connector's predictions.
--     IsRow             the row of a job
--     AreLines          the lines of all jobs, in order
use Rattle.std.specs.Prelude.{◌≡◌, ℕ, List, [], ◌∷◌, Option, Some, None, ⊤}
use Rattle.client_core.specs.declared.job.Job.{Job}
use Rattle.client_core.specs.declared.job.Outcome.{Outcome}
use Rattle.client_core.specs.declared.job.Verb.{Verb}
use Rattle.client_core.specs.Outcomes.{outcome_of}
use Rattle.head_end.specs.declared.row.Row.{Row}
use Rattle.head_end.specs.declared.row.Row.TheVariants.{Came, Memory}
use Rattle.head_end.specs.declared.row.ReportLine.{ReportLine}
use Rattle.head_end.specs.Connections.{Forecast}

-- whether the outcome of a job is that of the predicted bytes of its meter's connection
abbrev pub IsOutcome : Option Forecast → Verb → Outcome → Type 0
IsOutcome None verb outcome = ⊤
IsOutcome (Some told) verb outcome = outcome ≡ outcome_of verb told.bytes

-- whether a row is that of the job, which may be out of memory
abbrev pub IsRow : (List ℕ → Option Forecast) → Job → Row → Type 0
IsRow tells job (Came outcome) = IsOutcome (tells job.address) job.verb outcome
IsRow tells job Memory = ⊤

-- whether a line has the id and the row of the job
pub record IsLine (tells : List ℕ → Option Forecast) (job : Job) (line : ReportLine) : Type 0 where
  pub id_is : line.id ≡ job.id
  pub row_is : IsRow tells job line.row

-- whether line i is that of job i, and there are as many lines as jobs
abbrev pub AreLines : (List ℕ → Option Forecast) → List Job → List ReportLine → Type 0
AreLines tells [] [] = ⊤
AreLines tells (job ∷ jobs) (line ∷ lines) = IsLine tells job line × AreLines tells jobs lines
AreLines tells [] (line ∷ lines) = ⊥
AreLines tells (job ∷ jobs) [] = ⊥
