-- A campaign split into parts.
use Rattle.std.proofs.Common.{◌≡◌, ◌≢◌, ℕ, suc, List, [], ◌∷◌, ◌++◌, map, Option, Some, None, Ok, Err, refl, sym, ap, ◌∙◌, append_assoc}
use Rattle.std.specs.Prelude.{IsSome, Result}
use Rattle.std.proofs.lemmas.List.Concat.{flat_map-append}
use Rattle.text_lines.specs.Lines.{lines_of, unended_of}
use Rattle.text_lines.proofs.JoinedTexts.{lines_joined, unended_joined}
use Rattle.client_core.specs.declared.job.Job.{Job}
use Rattle.head_end.specs.declared.row.Row.{Row}
use Rattle.head_end.specs.declared.row.Row.TheVariants.{Came, Memory}
use Rattle.head_end.specs.declared.row.ReportLine.{ReportLine}
use Rattle.head_end.specs.Connections.{Forecast}
use Rattle.head_end.specs.Jobs.{job_lines, job_of, joined_jobs, jobs_at, jobs_in}
use Rattle.head_end.specs.Reports.{line_text, report_text}
use Rattle.head_end.specs.Rows.{IsRow, AreLines}
use Rattle.head_end.specs.Laws.{line_by, line_for, AreTold, HaveMemory, ReportsJoin, LinesJoin, IsTheReport, JobsJoin}
use Rattle.head_end.proofs.ReadingLemmas.{jobs_in-cons, jobs_in-nil}

pub reports_join : ReportsJoin
unfolding report_text
reports_join lines others = flat_map-append line_text lines others

pub lines_join : LinesJoin
lines_join tells [] rest [] others first second = second
lines_join tells [] rest (line ∷ lines) others first second = absurd first
lines_join tells (job ∷ jobs) rest [] others first second = absurd first
lines_join tells (job ∷ jobs) rest (line ∷ lines) others first second =
    (first.0, lines_join tells jobs rest lines others first.1 second)

-- a line whose connection's reads are predicted
row_told : (job : Job) (told : Option Forecast) (tells : List ℕ → Option Forecast) (row : Row)
    → tells job.address ≡ told → IsSome told → IsRow tells job row → row ≢ Memory
    → row ≡ (line_by job told).row
row_told job (Some told) tells (Came outcome) is some row_is memory = ap Came (rw is at row_is)
row_told job told tells Memory is some row_is memory = absurd (memory refl)
row_told job None tells (Came outcome) is some row_is memory = absurd cc

id_told : (job : Job) (told : Option Forecast) → (line_by job told).id ≡ job.id
id_told job (Some told) = refl
id_told job None = refl

same_line : (id other : List ℕ) (row came : Row) → id ≡ other → row ≡ came
    → ◌≡◌ {A = ReportLine} (record { id = id; row = row }) (record { id = other; row = came })
same_line id other row came ids rows = cc

lines_told : (tells : List ℕ → Option Forecast) (jobs : List Job) (lines : List ReportLine)
    → AreLines tells jobs lines → AreTold tells jobs → HaveMemory lines
    → lines ≡ map (line_for tells) jobs
lines_told tells [] [] are told memory = refl
lines_told tells [] (line ∷ lines) are told memory = absurd are
lines_told tells (job ∷ jobs) [] are told memory = absurd are
lines_told tells (job ∷ jobs) (line ∷ lines) are told memory =
    let here : line ≡ line_for tells job =
    same_line line.id (line_for tells job).id line.row (line_for tells job).row (are.0.id_is
    ∙ sym (id_told job (tells job.address)))
    (row_told job (tells job.address) tells line.row refl told.0 are.0.row_is memory.0) in
    let others = lines_told tells jobs lines are.1 told.1 memory.1 in
    cc

pub is_the_report : IsTheReport
is_the_report tells jobs lines are told memory =
    ap report_text (lines_told tells jobs lines are told memory)

-- ---- the jobs of a text

-- if all lines are jobs, the numbers of the lines do not matter
by_job : (number other : ℕ) (line : List ℕ) (job : Option Job) (jobs : List Job)
    → jobs_at number line job ≡ Ok jobs → jobs_at other line job ≡ Ok jobs
by_job number other [] job jobs is = is
by_job number other (byte ∷ bytes) (Some job) jobs is = is
by_job number other (byte ∷ bytes) None jobs is = absurd cc

-- if both together are Ok, so is each
pub record IsBoth (first second : Result (List Job) ℕ) (jobs : List Job) : Type 0 where
  pub left : List Job
  pub right : List Job
  pub first_is : first ≡ Ok left
  pub second_is : second ≡ Ok right
  pub jobs_are : jobs ≡ left ++ right

both_of : (first second : Result (List Job) ℕ) (jobs : List Job) → joined_jobs first second
    ≡ Ok jobs → IsBoth first second jobs
both_of (Err n) second jobs is = absurd cc
both_of (Ok left) (Err n) jobs is = absurd cc
both_of (Ok left) (Ok right) jobs is = record {
  left = left;
  right = right;
  first_is = refl;
  second_is = refl;
  jobs_are = cc;
}

jobs_renumbered : (number other : ℕ) (lines : List (List ℕ)) (jobs : List Job)
    → jobs_in number lines ≡ Ok jobs → jobs_in other lines ≡ Ok jobs
jobs_renumbered number other [] jobs is = jobs_in-nil other ∙ sym (jobs_in-nil number) ∙ is
jobs_renumbered number other (line ∷ lines) jobs is =
    let both = both_of (jobs_at number line (job_of line)) (jobs_in (suc number) lines) jobs
    (sym (jobs_in-cons number line lines) ∙ is) in
    let first = by_job number other line (job_of line) both.left both.first_is in
    let second = jobs_renumbered (suc number) (suc other) lines both.right both.second_is in
    jobs_in-cons other line lines ∙ ap (λ (r : Result (List Job) ℕ). joined_jobs r
    (jobs_in (suc other) lines)) first
    ∙ ap (joined_jobs (Ok both.left)) second ∙ ap
    (λ (js : List Job). let r : Result (List Job) ℕ = Ok js in r) (sym both.jobs_are)

-- lines followed by others
no_jobs : (jobs : List Job) → ◌≡◌ {A = Result (List Job) ℕ} (Ok []) (Ok jobs) → jobs ≡ []
no_jobs jobs is = cc

jobs_appended : (number : ℕ) (lines others : List (List ℕ)) (jobs more : List Job)
    → jobs_in number lines ≡ Ok jobs → jobs_in number others ≡ Ok more
    → jobs_in number (lines ++ others) ≡ Ok (jobs ++ more)
jobs_appended number [] others jobs more is later =
    let none : jobs ≡ [] = no_jobs jobs (sym (jobs_in-nil number) ∙ is) in
    rw none later
jobs_appended number (line ∷ lines) others jobs more is later =
    let both = both_of (jobs_at number line (job_of line)) (jobs_in (suc number) lines) jobs
    (sym (jobs_in-cons number line lines) ∙ is) in
    let rest = jobs_appended (suc number) lines others both.right more both.second_is
    (jobs_renumbered number (suc number) others more later) in
    jobs_in-cons number line (lines ++ others)
    ∙ ap (λ (r : Result (List Job) ℕ). joined_jobs r (jobs_in (suc number) (lines ++ others)))
    both.first_is
    ∙ ap (joined_jobs (Ok both.left)) rest
    ∙ ap (λ (js : List Job). let r : Result (List Job) ℕ = Ok js in r)
    (sym (append_assoc both.left both.right more)
    ∙ ap (λ (js : List Job). js ++ more) (sym both.jobs_are))

-- an empty line after the others has no jobs
jobs_ended : (number : ℕ) (lines : List (List ℕ)) (jobs : List Job)
    → jobs_in number (lines ++ [] ∷ []) ≡ Ok jobs → jobs_in number lines ≡ Ok jobs
jobs_ended number [] jobs is = jobs_in-nil number
    ∙ sym (jobs_in-cons number [] [] ∙ ap (joined_jobs (Ok [])) (jobs_in-nil (suc number))) ∙ is
jobs_ended number (line ∷ lines) jobs is =
    let both = both_of (jobs_at number line (job_of line)) (jobs_in (suc number) (lines ++ [] ∷ []))
    jobs (sym (jobs_in-cons number line (lines ++ [] ∷ [])) ∙ is) in
    jobs_in-cons number line lines ∙ ap (λ (r : Result (List Job) ℕ). joined_jobs r
    (jobs_in (suc number) lines)) both.first_is
    ∙ ap (joined_jobs (Ok both.left)) (jobs_ended (suc number) lines both.right both.second_is)
    ∙ ap (λ (js : List Job). let r : Result (List Job) ℕ = Ok js in r) (sym both.jobs_are)

pub jobs_join : JobsJoin
jobs_join text rest jobs others ended first second =
    let lines : job_lines (text ++ rest) ≡ lines_of text ++ job_lines rest =
    ap (λ (ls : List (List ℕ)). ls ++ unended_of (text ++ rest) ∷ []) (lines_joined text rest ended)
    ∙ ap (λ (behind : List ℕ). (lines_of text ++ lines_of rest) ++ behind
    ∷ []) (unended_joined text rest ended)
    ∙ append_assoc (lines_of text) (lines_of rest) (unended_of rest ∷ []) in
    let whole : jobs_in 1 (lines_of text) ≡ Ok jobs =
    jobs_ended 1 (lines_of text) jobs (rw ended at first) in
    ap (jobs_in 1) lines ∙ jobs_appended 1 (lines_of text) (job_lines rest) jobs others whole second
