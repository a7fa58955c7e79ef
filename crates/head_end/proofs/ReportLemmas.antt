-- The lines of jobs whose names have at most 32 bytes.
use Rattle.std.proofs.Common.{◌≡◌, ◌<◌, ◌≤◌, ℕ, zero, suc, List, [], ◌∷◌, length, map}
use Rattle.std.proofs.Common.{slice_index_or, Result, Ok, Err, OnErr, ap, arith}
use Rattle.std.specs.List.{All}
use Rattle.client_core.specs.declared.job.Job.{Job}
use Rattle.head_end.specs.declared.row.ReportLine.{ReportLine}
use Rattle.head_end.specs.Reports.{longest_name}

-- if the names of the jobs are short, so are those of their lines
pub short_lines : (jobs : List Job) (lines : List ReportLine)
    → map (λ (l : ReportLine). l.id) lines ≡ map (λ (j : Job). j.id) jobs
    → All (λ (j : Job). length j.id ≤ longest_name) jobs
    → (i : ℕ) (line : ReportLine) → i < length lines
    → length (slice_index_or lines i line).id ≤ longest_name
short_lines [] [] same short i line below = absurd (omega arith)
short_lines [] (l ∷ lines) same short i line below = absurd cc
short_lines (j ∷ jobs) [] same short i line below = absurd (omega arith)
short_lines (j ∷ jobs) (l ∷ lines) same short zero line below =
    let first : l.id ≡ j.id = cc in
    omega (arith, ap length first, short 0 j (omega arith))
short_lines (j ∷ jobs) (l ∷ lines) same short (suc i) line below =
    short_lines jobs lines
    (let tails : map (λ (l : ReportLine). l.id) lines ≡ map (λ (j : Job). j.id) jobs = cc in tails)
    (λ k job less. short (suc k) job (omega arith)) i line (omega arith)

-- what holds, holds on an error
pub on_error : {T E A : Type 0} (result : Result T E) → A → OnErr result A
on_error (Ok value) holds = tt
on_error (Err error) holds = holds
