-- The lines of a report.
use Rattle.std.proofs.Common.{◌≡◌, ◌<◌, ◌≤◌, ◌+◌, ℕ, zero, suc, List, [], ◌∷◌, length, map, refl, sym, ◌∙◌, ap, subst, inl, inr, arith}
use Rattle.std.specs.Prelude.{slice_index_or, slice_set}
use Rattle.std.specs.List.{All}
use Rattle.std.proofs.lemmas.Bool.{cases_eq}
use Rattle.std.proofs.lemmas.List.{get_or-set_same, get_or-set_other, length-set, length-map}
use Rattle.client_core.specs.declared.job.Job.{Job}
use Rattle.head_end.specs.Reports.{longest_name}
use Rattle.head_end.specs.declared.row.Row.{Row}
use Rattle.head_end.specs.declared.row.ReportLine.{ReportLine}
use Rattle.campaign_board.specs.Lives.{Happening, life_of}
use Rattle.campaign_board.specs.Histories.{Terms}
use Rattle.campaign_board.specs.Boards.{BoardState, IsBoard, ending_at}
use Rattle.campaign_loop.specs.Rows.{row_of, AreRows}

-- whether a row is that of a place, by a board
pub record IsRowAt {B : Type 0} (is_honest : B → Type 0) (is_marked : B → ℕ → Type 0)
    (board : BoardState B) (blank : Row) (at : ℕ) (row : Row) : Type 0 where
  pub row_is : (terms : Terms) (steps : List Happening)
      → IsBoard is_honest is_marked terms steps board → at < terms.count
      → row ≡ row_of blank (ending_at (terms.found at) (terms.job at).verb (life_of at steps))

-- Whether the first lines, this number of them, have the rows of their places, and all lines have
-- their names.
pub record Fills {B : Type 0} (is_honest : B → Type 0) (is_marked : B → ℕ → Type 0)
    (board : BoardState B) (blank : Row) (old : List ReportLine) (n : ℕ) (new : List ReportLine)
    : Type 0 where
  pub rows : (i : ℕ) (line : ReportLine) → i < n
      → IsRowAt is_honest is_marked board blank i (slice_index_or new i line).row
  pub ids : (i : ℕ) (line : ReportLine) → i < length old
      → (slice_index_or new i line).id ≡ (slice_index_or old i line).id
  pub len : length new ≡ length old

-- lines with the same name at each index have the same names
pub same_ids : (old new : List ReportLine) → length new ≡ length old
    → ((i : ℕ) (line : ReportLine) → i < length old
    → (slice_index_or new i line).id ≡ (slice_index_or old i line).id)
    → map (λ (l : ReportLine). l.id) new ≡ map (λ (l : ReportLine). l.id) old
same_ids [] [] same each = refl
same_ids [] (n ∷ new) same each = absurd (omega arith)
same_ids (o ∷ old) [] same each = absurd (omega arith)
same_ids (o ∷ old) (n ∷ new) same each =
    let first : n.id ≡ o.id = each 0 o (omega arith) in
    let others = same_ids old new (omega arith)
    (λ i line below. each (suc i) line (omega arith)) in
    cc

-- one more line has the row of its place
pub fills_more : {B : Type 0} (is_honest : B → Type 0) (is_marked : B → ℕ → Type 0)
    (board : BoardState B) (blank : Row) (old : List ReportLine) (n : ℕ)
    (lines : List ReportLine) (line : ReportLine) (row : Row) → n < length lines
    → Fills is_honest is_marked board blank old n lines
    → IsRowAt is_honest is_marked board blank n row
    → Fills is_honest is_marked board blank old (n + 1)
    (slice_set lines n (record { id = (slice_index_or lines n line).id; row = row }))
fills_more is_honest is_marked board blank old n lines line row within fills is = record {
  rows = λ i l below. elim (cases_eq i n) [
    | inl same ↦ subst (λ (k : ℕ). IsRowAt is_honest is_marked board blank k
        (slice_index_or (slice_set lines n new) k l).row) (sym same)
        (subst (λ (found : ReportLine). IsRowAt is_honest is_marked board blank n found.row)
        (sym (get_or-set_same lines n new l within)) is)
    | inr apart ↦ subst (λ (found : ReportLine). IsRowAt is_honest is_marked board blank i
        found.row) (sym (get_or-set_other lines n i new l apart))
        (fills.rows i l (omega (arith, below, apart)))
  ];
  ids = λ i l below. elim (cases_eq i n) [
    | inl same ↦ subst (λ (k : ℕ). (slice_index_or (slice_set lines n new) k l).id
        ≡ (slice_index_or old k l).id) (sym same)
        (ap (λ (found : ReportLine). found.id) (get_or-set_same lines n new l within)
        ∙ any_line lines n line l within
        ∙ fills.ids n l (subst (λ (k : ℕ). k < length old) same below))
    | inr apart ↦ ap (λ (found : ReportLine). found.id) (get_or-set_other lines n i new l apart)
        ∙ fills.ids i l below
  ];
  len = length-set lines n new ∙ fills.len;
}
  where
    new : ReportLine
    new = record { id = (slice_index_or lines n line).id; row = row }

    any_line : (xs : List ReportLine) (k : ℕ) (d e : ReportLine) → k < length xs
        → (slice_index_or xs k d).id ≡ (slice_index_or xs k e).id
    any_line [] k d e inside = absurd (omega arith)
    any_line (x ∷ xs) zero d e inside = refl
    any_line (x ∷ xs) (suc k) d e inside = any_line xs k d e (omega (arith, inside))

-- the rows of all lines
pub all_rows : {B : Type 0} (is_honest : B → Type 0) (is_marked : B → ℕ → Type 0)
    (board : BoardState B) (blank : Row) (old : List ReportLine) (n : ℕ)
    (lines : List ReportLine) → length lines ≤ n
    → Fills is_honest is_marked board blank old n lines
    → AreRows is_honest is_marked board blank lines
all_rows is_honest is_marked board blank old n lines whole fills = record {
  rows = λ terms steps is at line within below.
      (fills.rows at line (omega (arith, whole, below))).row_is terms steps is within;
}

-- lines with short names, if those of the jobs are
pub short_lines : (jobs : List Job) (lines : List ReportLine)
    → map (λ (l : ReportLine). l.id) lines ≡ map (λ (j : Job). j.id) jobs
    → All (λ (j : Job). length j.id ≤ longest_name) jobs
    → (i : ℕ) (line : ReportLine) → i < length lines
    → length (slice_index_or lines i line).id ≤ longest_name
short_lines [] [] same short i line below = absurd (omega arith)
short_lines [] (l ∷ lines) same short i line below = absurd cc
short_lines (j ∷ jobs) [] same short i line below = absurd (omega arith)
short_lines (j ∷ jobs) (l ∷ lines) same short zero line below =
    let first : l.id ≡ j.id = cc in
    omega (arith, ap length first, short 0 j (omega arith))
short_lines (j ∷ jobs) (l ∷ lines) same short (suc i) line below =
    short_lines jobs lines
    (let tails : map (λ (l : ReportLine). l.id) lines ≡ map (λ (j : Job). j.id) jobs = cc in tails)
    (λ k job less. short (suc k) job (omega arith)) i line (omega arith)

-- as many lines as jobs
pub same_length : (jobs : List Job) (lines : List ReportLine)
    → map (λ (l : ReportLine). l.id) lines ≡ map (λ (j : Job). j.id) jobs
    → length lines ≡ length jobs
same_length jobs lines same = sym (length-map lines (λ (l : ReportLine). l.id)) ∙ ap length same
    ∙ length-map jobs (λ (j : Job). j.id)
