-- The list of jobs in an input, as far as the bytes of the input are known.
--     IsTextOf     a text is the whole input
--     AreJobsOf    jobs are those of the list that is the whole input
--     HasNoList    the input is not a list of jobs, or too long
use Rattle.std.specs.Prelude.{◌≡◌, ◌<◌, ◌⊎◌, ℕ, List, length, Option, IfSome, IsErr, Ok}
use Rattle.client_core.specs.declared.job.Job.{Job}
use Rattle.head_end.specs.Jobs.{jobs_of}

-- whether this text is the whole input
abbrev pub IsTextOf : Option (List ℕ) → List ℕ → Type 0
IsTextOf input text = IfSome input (λ whole. text ≡ whole)

-- whether these are the jobs, in order, of the list that is the whole input
abbrev pub AreJobsOf : Option (List ℕ) → List Job → Type 0
AreJobsOf input jobs = IfSome input (λ whole. jobs_of whole ≡ Ok jobs)

-- whether the whole input is not a list of jobs, or has more than 1,048,576 bytes
abbrev pub HasNoList : Option (List ℕ) → Type 0
HasNoList input = IfSome input (λ whole. (1_048_576 < length whole) ⊎ IsErr (jobs_of whole))
