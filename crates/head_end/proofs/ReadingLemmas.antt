-- Jobs that are read line by line.
use Rattle.std.proofs.Common.{◌≡◌, ◌+◌, ◌≤◌, ◌-◌, ℕ, suc, add-one, List, [], ◌∷◌, ◌++◌, length, Ok, Err, refl, sym, ap, ◌∙◌, arith, append_assoc, append-nil}
use Rattle.std.specs.Prelude.{Result}
use Rattle.std.proofs.lemmas.List.Sums.{count_by-le-length}
use Rattle.std.proofs.lemmas.List.Splits.{length-slice_split}
use Rattle.text_lines.proofs.Cuts.{is_byte}
use Rattle.text_lines.specs.Parts.{parts_at}
use Rattle.text_lines.specs.Lines.{all_but_last, lines_of, unended_of}
use Rattle.client_core.specs.declared.job.Job.{Job}
use Rattle.head_end.specs.declared.fault.JobsFault.{JobsFault}
use Rattle.head_end.specs.declared.fault.JobsFault.TheVariants as fault
use Rattle.head_end.specs.Jobs.{job_lines, job_of, joined_jobs, jobs_at, jobs_in, ReadsLines, AddsJob}

-- joining is associative
pub joined_assoc : (a b c : Result (List Job) ℕ) → joined_jobs (joined_jobs a b) c
    ≡ joined_jobs a (joined_jobs b c)
joined_assoc (Err n) b c = refl
joined_assoc (Ok xs) (Err n) c = refl
joined_assoc (Ok xs) (Ok ys) (Err n) = refl
joined_assoc (Ok xs) (Ok ys) (Ok zs) = ap (λ (jobs : List Job). let r : Result
    (List Job) ℕ = Ok jobs in r) (append_assoc xs ys zs)

pub jobs_in-cons : (number : ℕ) (line : List ℕ) (lines : List (List ℕ))
    → jobs_in number (line ∷ lines) ≡ joined_jobs (jobs_at number line (job_of line))
    (jobs_in (suc number) lines)
unfolding jobs_in
jobs_in-cons number line lines = refl

pub jobs_in-nil : (number : ℕ) → jobs_in number [] ≡ Ok []
unfolding jobs_in
jobs_in-nil number = refl

-- the jobs read so far, and the rest of the text
pub record Left (text : List ℕ) (jobs : List Job) (number : ℕ) (rest : List ℕ) : Type 0 where
  pub all : jobs_in 1 (job_lines text) ≡ joined_jobs (Ok jobs) (jobs_in number (job_lines rest))
  pub count : number + length (lines_of rest) ≡ 1 + length (lines_of text)

-- no jobs followed by others
joined_none : (others : Result (List Job) ℕ) → others ≡ joined_jobs (Ok []) others
joined_none (Err n) = refl
joined_none (Ok jobs) = refl

pub left_all : (text : List ℕ) → Left text [] 1 text
left_all text = record { all = joined_none (jobs_in 1 (job_lines text)); count = refl }

-- a line is removed from the text, and its jobs follow the others
pub lines_taken : (rest line behind : List ℕ) → lines_of rest ≡ line ∷ lines_of behind
    → unended_of rest ≡ unended_of behind → job_lines rest ≡ line ∷ job_lines behind
lines_taken rest line behind lines unended = rw (lines, unended) refl

pub lines_last : (rest : List ℕ) → lines_of rest ≡ [] → unended_of rest ≡ rest
    → job_lines rest ≡ rest ∷ []
lines_last rest lines unended = rw (lines, unended) refl

taken_all : (text : List ℕ) (old : List Job) (number : ℕ) (rest line : List ℕ)
    (lines : List (List ℕ)) → Left text old number rest → job_lines rest ≡ line ∷ lines
    → jobs_in 1 (job_lines text) ≡ joined_jobs
    (joined_jobs (Ok old) (jobs_at number line (job_of line))) (jobs_in (suc number) lines)
taken_all text old number rest line lines left taken =
    left.all ∙ ap (λ (ls : List (List ℕ)). joined_jobs (Ok old) (jobs_in number ls)) taken
    ∙ ap (joined_jobs (Ok old)) (jobs_in-cons number line lines)
    ∙ sym (joined_assoc (Ok old) (jobs_at number line (job_of line)) (jobs_in (suc number) lines))

pub left_more : (text : List ℕ) (old new : List Job) (number : ℕ) (rest line behind : List ℕ)
    → Left text old number rest → lines_of rest ≡ line ∷ lines_of behind
    → unended_of rest ≡ unended_of behind → AddsJob {X = Unit {0}} number line old (Ok tt) new
    → Left text new (number + 1) behind
left_more text old new number rest line behind left lines unended adds =
    let here = taken_all text old number rest line (job_lines behind) left
    (lines_taken rest line behind lines unended) in
    let jobs : joined_jobs (Ok old) (jobs_at number line (job_of line)) ≡ Ok new =
    ap (joined_jobs (Ok old)) adds.1 ∙ ap (λ (js : List Job). let r : Result
    (List Job) ℕ = Ok js in r) (sym adds.2) in
    record {
      all = rw add-one (here ∙ ap (λ (r : Result (List Job) ℕ). joined_jobs r
          (jobs_in (suc number) (job_lines behind))) jobs);
      count = omega (arith, left.count, ap length lines);
    }

-- the first wrong line
wrong_by : (text : List ℕ) (old new : List Job) (number : ℕ) (rest line : List ℕ)
    (lines : List (List ℕ)) (f : JobsFault) → Left text old number rest
    → job_lines rest ≡ line ∷ lines → AddsJob {X = Unit {0}} number line old (Err f) new
    → ReadsLines 1 (job_lines text) (Err f)
wrong_by text old new number rest line lines (fault.Line wrong) left taken adds =
    taken_all text old number rest line lines left taken
    ∙ ap (λ (r : Result (List Job) ℕ). joined_jobs (joined_jobs (Ok old) r)
    (jobs_in (suc number) lines)) adds
wrong_by text old new number rest line lines fault.Memory left taken adds = tt
wrong_by text old new number rest line lines fault.TooMany left taken adds = adds

pub wrong_line : (text : List ℕ) (old new : List Job) (number : ℕ) (rest line behind : List ℕ)
    (f : JobsFault) → Left text old number rest
    → lines_of rest ≡ line ∷ lines_of behind → unended_of rest ≡ unended_of behind
    → AddsJob {X = Unit {0}} number line old (Err f) new → ReadsLines 1 (job_lines text) (Err f)
wrong_line text old new number rest line behind f left lines unended adds =
    wrong_by text old new number rest line (job_lines behind) f left
    (lines_taken rest line behind lines unended) adds

pub wrong_last : (text : List ℕ) (old new : List Job) (number : ℕ) (rest : List ℕ) (f : JobsFault)
    → Left text old number rest → lines_of rest ≡ []
    → unended_of rest ≡ rest → AddsJob {X = Unit {0}} number rest old (Err f) new
    → ReadsLines 1 (job_lines text) (Err f)
wrong_last text old new number rest f left lines unended adds =
    wrong_by text old new number rest rest [] f left (lines_last rest lines unended) adds

-- all lines are read
pub read_last : (text : List ℕ) (old new : List Job) (number : ℕ) (rest : List ℕ)
    → Left text old number rest → lines_of rest ≡ [] → unended_of rest ≡ rest
    → AddsJob {X = Unit {0}} number rest old (Ok tt) new → jobs_in 1 (job_lines text) ≡ Ok new
read_last text old new number rest left lines unended adds =
    taken_all text old number rest rest [] left (lines_last rest lines unended)
    ∙ ap (λ (r : Result (List Job) ℕ). joined_jobs (joined_jobs (Ok old) r)
    (jobs_in (suc number) [])) adds.1
    ∙ ap (joined_jobs (Ok (old ++ adds.0))) (jobs_in-nil (suc number))
    ∙ ap (λ (js : List Job). let r : Result (List Job) ℕ = Ok js in r) (append-nil (old ++ adds.0)
    ∙ sym adds.2)

-- a line has at least one byte, the one that ends it
but_last-length : (parts : List (List ℕ)) → length (all_but_last parts) ≤ length parts - 1
but_last-length [] = omega arith
but_last-length (part ∷ []) = omega arith
but_last-length (part ∷ next ∷ parts) = omega (arith, but_last-length (next ∷ parts))

pub lines_few : (text : List ℕ) → length (lines_of text) ≤ length text
unfolding lines_of
lines_few text =
    omega (
      arith,
      but_last-length (parts_at 10 text),
      length-slice_split (is_byte 10) text,
      count_by-le-length (is_byte 10) text,
    )
