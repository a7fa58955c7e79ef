-- The lines of a ledger, line by line.
use Rattle.std.proofs.Common.{◌≡◌, ◌<◌, ◌+◌, ℕ, List, [], ◌∷◌, ◌++◌, Option, None, length, map, take}
use Rattle.std.proofs.Common.{slice_index_or, length-append, arith, ap, refl, subst, sym, ◌∙◌}
use Rattle.std.proofs.lemmas.List.{length-map, map_push, take_more}
use Rattle.std.proofs.lemmas.List.Elements.{All-push}
use Rattle.sqlite.specs.Order.{Row}
use Rattle.client_core.specs.declared.job.Job.{Job}
use Rattle.campaign_ledger.specs.declared.entry.LedgerEntry.{LedgerEntry}
use Rattle.campaign_ledger.specs.declared.entry.LedgerEntry.TheVariants.{NotSent}
use Rattle.ledger_reports.specs.declared.line.LedgerLine.{LedgerLine}
use Rattle.sqlite_ledger.specs.Jobs.{AreJobRows, IsJobRow}
use Rattle.sqlite_ledger.specs.Lines.{AreLinesOf}

-- the next row is that of one more job
pub jobs_push : (place : ℕ) (rows : List Row) (jobs : List Job) (row : Row) (job : Job)
    → AreJobRows place rows jobs → IsJobRow row (place + length jobs) job
    → AreJobRows place (rows ++ row ∷ []) (jobs ++ job ∷ [])
jobs_push place [] [] row job are is =
    let here : place + length {A = Job} [] ≡ place = omega arith in
    (subst (λ (at : ℕ). IsJobRow row at job) here is, tt)
jobs_push place (first ∷ rows) (head ∷ jobs) row job are is =
    let here : place + length (head ∷ jobs) ≡ (place + 1) + length jobs = omega arith in (
      are.0,
      jobs_push (place + 1) rows jobs row job are.1
          (subst (λ (at : ℕ). IsJobRow row at job) here is),
    )
jobs_push place [] (head ∷ jobs) row job are is = absurd are
jobs_push place (first ∷ rows) [] row job are is = absurd are

-- the jobs of lines
abbrev jobs_of : List LedgerLine → List Job
jobs_of lines = map (λ (line : LedgerLine). line.job) lines

-- one more line has the next of some parts
part_more : {A : Type 0} (part : LedgerLine → A) (parts : List A) (none : A)
    (lines : List LedgerLine) (line : LedgerLine) (i place : ℕ) → i < length parts → place ≡ i
    → part line ≡ slice_index_or parts place none → map part lines ≡ take i parts
    → map part (lines ++ line ∷ []) ≡ take (i + 1) parts
part_more {A} part parts none lines line i place below here is same =
    map_push part lines line ∙ ap (λ (ps : List A). ps ++ part line ∷ []) same
    ∙ ap (λ (p : A). take i parts ++ p ∷ [])
    (is ∙ ap (λ (n : ℕ). slice_index_or parts n none) here)
    ∙ sym (take_more parts i none below)

module _ (rows : List Row) (entries : List LedgerEntry) (begun ended : List (Option ℕ))
    (entry_each : length entries ≡ length rows) (begun_each : length begun ≡ length rows)
    (ended_each : length ended ≡ length rows) where
  -- the line of a job, with the entry and the times at a place
  abbrev pub line_at : ℕ → Job → LedgerLine
  line_at place job = record {
    job = job;
    entry = slice_index_or entries place NotSent;
    times = record {
      begun = slice_index_or begun place None;
      ended = slice_index_or ended place None;
    };
    answer = None;
  }

  -- one more line
  pub lines_more : (lines new : List LedgerLine) (i place : ℕ) (row : Row) (job : Job)
      → i < length rows → length lines ≡ i → place ≡ length lines → row ≡ slice_index_or rows i row
      → IsJobRow row place job → new ≡ lines ++ line_at place job ∷ []
      → AreLinesOf (take i rows) (take i entries) (take i begun) (take i ended) lines
      → (length new ≡ i + 1) × AreLinesOf (take (i + 1) rows) (take (i + 1) entries)
      (take (i + 1) begun) (take (i + 1) ended) new
  lines_more lines new i place row job below so_far at_end at_row is_job is_new are =
      let line = line_at place job in
      let here : place ≡ i = omega (arith, so_far, at_end) in
      let from : place ≡ 0 + length (jobs_of lines) =
      omega (arith, at_end, length-map lines (λ (l : LedgerLine). l.job)) in
      let more : take (i + 1) rows ≡ take i rows ++ row ∷ [] =
      take_more rows i row below ∙ ap (λ r. take i rows ++ r ∷ []) (sym at_row) in
      let all : AreLinesOf (take (i + 1) rows) (take (i + 1) entries) (take (i + 1) begun)
      (take (i + 1) ended) (lines ++ line ∷ []) = record {
        jobs_are = subst (λ (js : List Job). AreJobRows 0 (take (i + 1) rows) js)
            (sym (map_push (λ (l : LedgerLine). l.job) lines line))
            (subst (λ (rs : List Row). AreJobRows 0 rs (jobs_of lines ++ job ∷ [])) (sym more)
            (jobs_push 0 (take i rows) (jobs_of lines) row job are.jobs_are
            (subst (λ (at : ℕ). IsJobRow row at job) from is_job)));
        entries_are = part_more (λ (l : LedgerLine). l.entry) entries NotSent lines line i place
            (omega (arith, entry_each)) here refl are.entries_are;
        begun_are = part_more (λ (l : LedgerLine). l.times.begun) begun None lines line i place
            (omega (arith, begun_each)) here refl are.begun_are;
        ended_are = part_more (λ (l : LedgerLine). l.times.ended) ended None lines line i place
            (omega (arith, ended_each)) here refl are.ended_are;
        unanswered = All-push (λ (l : LedgerLine). l.answer ≡ None) lines line are.unanswered refl;
      }
      in (
        omega (arith, ap length is_new, length-append lines (line ∷ []), so_far),
        subst (λ (ls : List LedgerLine). AreLinesOf (take (i + 1) rows) (take (i + 1) entries)
            (take (i + 1) begun) (take (i + 1) ended) ls) (sym is_new) all,
      )
