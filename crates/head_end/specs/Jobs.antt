-- The jobs of a list of jobs.
--     job_lines         its lines: the bytes before, between and after the bytes 0A
--     job_of            the job of a line
--     jobs_in           the jobs of lines, or the number of the first wrong line
--     jobs_of           the jobs of a text, or its fault
use Rattle.std.specs.Prelude.{◌≡◌, ℕ, suc, Bool, ◌&&◌, nat_lt, nat_le, if◌then◌else◌, List, [], ◌∷◌, ◌++◌, length, codes, decimal, Option, Some, None, Result, Ok, Err}
use Rattle.std.specs.List.{list_all}
use Rattle.text_lines.specs.Lines.{lines_of, unended_of}
use Rattle.text_lines.specs.Words.{words_of}
use Rattle.client_core.specs.declared.job.Job.{Job}
use Rattle.client_core.specs.declared.job.Verb.{Verb}
use Rattle.client_core.specs.Verbs.{verb_of}
use Rattle.head_end.specs.declared.fault.JobsFault.{JobsFault}
use Rattle.head_end.specs.declared.fault.JobsFault.TheVariants as fault

-- the lines of a text, including a last one that is not ended
abbrev pub job_lines : List ℕ → List (List ℕ)
job_lines text = lines_of text ++ unended_of text ∷ []

-- whether a byte is visible, from 21 to 7E hex
abbrev pub is_visible : ℕ → Bool
is_visible byte = nat_le 0x21 byte && nat_le byte 0x7E

-- whether a text is one or more visible bytes, up to a maximum
abbrev pub is_name : ℕ → List ℕ → Bool
is_name most word = nat_lt 0 (length word) && nat_le (length word) most && list_all is_visible word

-- the job of a name, an address and a verb
abbrev pub job_with : List ℕ → List ℕ → Option Verb → Option Job
job_with id address None = None
job_with id address (Some verb) = if is_name 32 id && is_name 64 address
    then Some (record { id = id; address = address; verb = verb }) else None

-- the job of three words; none of any other number
abbrev pub job_words : List (List ℕ) → Option Job
job_words (id ∷ address ∷ verb ∷ []) = job_with id address (verb_of verb)
job_words _ = None

-- the job of a line, with one blank between its words
unfoldable pub job_of : List ℕ → Option Job
job_of line = job_words (words_of line)

-- jobs followed by others; the first fault is kept
abbrev pub joined_jobs : Result (List Job) ℕ → Result (List Job) ℕ → Result (List Job) ℕ
joined_jobs (Err number) others = Err number
joined_jobs (Ok jobs) (Err number) = Err number
joined_jobs (Ok jobs) (Ok others) = Ok (jobs ++ others)

-- the jobs of one line; an empty line has none
abbrev pub jobs_at : ℕ → List ℕ → Option Job → Result (List Job) ℕ
jobs_at number [] job = Ok []
jobs_at number (byte ∷ bytes) (Some job) = Ok (job ∷ [])
jobs_at number (byte ∷ bytes) None = Err number

-- the jobs of lines numbered from here, or the number of the first invalid line
unfoldable pub jobs_in : ℕ → List (List ℕ) → Result (List Job) ℕ
jobs_in number [] = Ok []
jobs_in number (line ∷ lines) =
    joined_jobs (jobs_at number line (job_of line)) (jobs_in (suc number) lines)

-- the jobs, if there are at most 1,000
abbrev pub limited_jobs : Result (List Job) ℕ → Result (List Job) JobsFault
limited_jobs (Err number) = Err (fault.Line number)
limited_jobs (Ok jobs) = if nat_lt 1000 (length jobs) then Err fault.TooMany else Ok jobs

-- the jobs of a text; an invalid line takes precedence over too many jobs
unfoldable pub jobs_of : List ℕ → Result (List Job) JobsFault
jobs_of text = limited_jobs (jobs_in 1 (job_lines text))

-- whether a result is the jobs of a text, its fault, or out of memory
abbrev pub ReadsJobs : List ℕ → Result (List Job) JobsFault → Type 0
ReadsJobs text (Ok jobs) = jobs_of text ≡ Ok jobs
ReadsJobs text (Err fault.Memory) = Unit {0}
ReadsJobs text (Err (fault.Line number)) = jobs_of text ≡ Err (fault.Line number)
ReadsJobs text (Err fault.TooMany) = jobs_of text ≡ Err fault.TooMany

-- the line `jobs N`, ended by the byte 0A
abbrev pub count_text : ℕ → List ℕ
count_text count = (codes "jobs " ++ decimal count) ++ 10 ∷ []

-- whether a result is the line with the number of a text's jobs, its fault, or out of memory
abbrev pub CountsJobs : List ℕ → Result (List ℕ) JobsFault → Type 0
CountsJobs text (Ok out) = (jobs : List Job) × (jobs_of text ≡ Ok jobs)
    × (out ≡ count_text (length jobs))
CountsJobs text (Err fault) = ReadsJobs text (Err fault)

-- whether a result is the jobs of lines numbered from here, the number of the first invalid line,
-- or out of memory
abbrev pub ReadsLines : ℕ → List (List ℕ) → Result (List Job) JobsFault → Type 0
ReadsLines number lines (Ok jobs) = jobs_in number lines ≡ Ok jobs
ReadsLines number lines (Err (fault.Line wrong)) = jobs_in number lines ≡ Err wrong
ReadsLines number lines (Err fault.Memory) = Unit {0}
ReadsLines number lines (Err fault.TooMany) = ⊥

-- whether adding the job of a line to a list had this result: the line's job was appended, the line
-- is invalid, or out of memory
abbrev pub AddsJob : {X : Type 0} → ℕ → List ℕ → List Job → Result X JobsFault → List Job → Type 0
AddsJob number line old (Ok x) new = (added : List Job)
    × (jobs_at number line (job_of line) ≡ Ok added) × (new ≡ old ++ added)
AddsJob number line old (Err (fault.Line wrong)) new = jobs_at number line (job_of line) ≡ Err wrong
AddsJob number line old (Err fault.Memory) new = Unit {0}
AddsJob number line old (Err fault.TooMany) new = ⊥
