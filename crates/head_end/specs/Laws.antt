-- A campaign may be split: its parts may run anywhere, and their reports, concatenated, are a
-- report of the whole.
--     line_for          the line of a job whose meter's reads are predicted
--     AreTold           the reads of all jobs' meters are predicted
--     HaveMemory        no job ran out of memory
--     Reports           a text is the report of jobs that were run
--     campaign_text     the report of jobs, as a function of the connector's predictions
use Rattle.std.specs.Prelude.{◌≡◌, ◌≢◌, ℕ, List, [], ◌∷◌, ◌++◌, length, map, Option, Some, None, IsSome, Ok, ⊤}
use Rattle.std.specs.List.{All}
use Rattle.text_lines.specs.Lines.{unended_of}
use Rattle.client_core.specs.declared.job.Job.{Job}
use Rattle.client_core.specs.declared.job.Outcome.TheVariants.{Unknown}
use Rattle.client_core.specs.Outcomes.{outcome_of}
use Rattle.head_end.specs.declared.row.Row.TheVariants.{Came, Memory}
use Rattle.head_end.specs.declared.row.ReportLine.{ReportLine}
use Rattle.head_end.specs.Attempts.{State}
use Rattle.head_end.specs.Campaigns.{turns_for, AreTriedWith}
use Rattle.head_end.specs.Connections.{Forecast}
use Rattle.head_end.specs.Jobs.{job_lines, jobs_in}
use Rattle.head_end.specs.Reports.{report_text}
use Rattle.head_end.specs.Rows.{AreLines}

-- the report line of a job with this prediction of its meter's reads; unknown without one
abbrev pub line_by : Job → Option Forecast → ReportLine
line_by job (Some told) = record { id = job.id; row = Came (outcome_of job.verb told.bytes) }
line_by job None = record { id = job.id; row = Came Unknown }

-- the report line of a job, by the prediction for its address
abbrev pub line_for : (List ℕ → Option Forecast) → Job → ReportLine
line_for tells job = line_by job (tells job.address)

-- whether the reads of the connections to all the jobs' meters are predicted
abbrev pub AreTold : (List ℕ → Option Forecast) → List Job → Type 0
AreTold tells [] = ⊤
AreTold tells (job ∷ jobs) = IsSome (tells job.address) × AreTold tells jobs

-- whether no job ran out of memory
abbrev pub HaveMemory : List ReportLine → Type 0
HaveMemory [] = ⊤
HaveMemory (line ∷ lines) = (line.row ≢ Memory) × HaveMemory lines

-- the report of jobs
abbrev pub campaign_text : (List ℕ → Option Forecast) → List Job → List ℕ
campaign_text tells jobs = report_text (map (line_for tells) jobs)

-- the concatenated reports of parts are the report of the whole
abbrev pub ReportsJoin : Type 0
ReportsJoin = (lines others : List ReportLine)
    → report_text (lines ++ others) ≡ report_text lines ++ report_text others

-- lines of parts of the jobs are lines of all
abbrev pub LinesJoin : Type 0
LinesJoin = (tells : List ℕ → Option Forecast) (jobs rest : List Job)
    (lines others : List ReportLine)
    → AreLines tells jobs lines → AreLines tells rest others
    → AreLines tells (jobs ++ rest) (lines ++ others)

-- if all reads are predicted and no job ran out of memory, the report is a function of the jobs,
-- whatever the workers, the machines and the parts
abbrev pub IsTheReport : Type 0
IsTheReport = (tells : List ℕ → Option Forecast) (jobs : List Job) (lines : List ReportLine)
    → AreLines tells jobs lines → AreTold tells jobs → HaveMemory lines
    → report_text lines ≡ campaign_text tells jobs

-- the jobs of a text whose last line is ended and of another text, in order, are those of both
-- texts concatenated
abbrev pub JobsJoin : Type 0
JobsJoin = (text rest : List ℕ) (jobs others : List Job) → unended_of text ≡ []
    → jobs_in 1 (job_lines text) ≡ Ok jobs → jobs_in 1 (job_lines rest) ≡ Ok others
    → jobs_in 1 (job_lines (text ++ rest)) ≡ Ok (jobs ++ others)

-- whether the text is the report of the lines of the jobs, and each job used its attempt as its
-- line says
pub record Reports {X : Type 0} (tells_of : X → List ℕ
    → Option Forecast) (workers : ℕ) (jobs : List Job) (passwords : List (List ℕ)) (old : List X)
    (stages : List State) (text : List ℕ) : Type 0 where
  pub lines : List ReportLine
  pub text_is : text ≡ report_text lines
  pub lines_are : (tells : List ℕ → Option Forecast) → All (λ x. tells_of x ≡ tells) old
      → AreLines tells jobs lines
  pub tried : AreTriedWith (turns_for (length jobs) workers) workers jobs passwords lines stages
