-- Lines of a list of passwords that have one name.
use Rattle.std.proofs.Common.{◌≡◌, ◌≢◌, ◌+◌, ◌-◌, ◌<◌, ◌≤◌, ◌⊎◌, inl, inr, ℕ, suc, true, List, []}
use Rattle.std.proofs.Common.{◌∷◌, ◌++◌, length, Option, Some, None, slice_get, option_and_then}
use Rattle.std.proofs.Common.{sym, ap, subst, ◌∙◌, arith}
use Rattle.std.proofs.lemmas.Bool.{cases_eq, cases_lt}
use Rattle.std.proofs.lemmas.List.Splits.{length-slice_split}
use Rattle.std.proofs.lemmas.List.Sums.{count_by-le-length}
use Rattle.text_lines.specs.Lines.{all_but_last, lines_of, unended_of}
use Rattle.text_lines.specs.Parts.{parts_at}
use Rattle.text_lines.proofs.Cuts.{is_byte}
use Rattle.head_end_commands.specs.Filters.{has_place}
use Rattle.head_end_commands.specs.declared.text_filter.TextFilter.{TextFilter}
use Rattle.head_end.specs.Jobs.{job_lines}
use Rattle.head_end_commands.specs.Doubles.{AreDouble, HasDouble, HasNames, name_at, name_of}

-- the rest of a text begins at the line of this place
pub record LeftFrom (text : List ℕ) (place : ℕ) (rest : List ℕ) : Type 0 where
  pub lines : (k : ℕ) → slice_get (job_lines rest) k ≡ slice_get (job_lines text) (place + k)
  pub count : place + length (lines_of rest) ≡ length (lines_of text)

pub left_first : (text : List ℕ) → LeftFrom text 0 text
left_first text = record {
  lines = λ k. ap (λ (n : ℕ). slice_get (job_lines text) n) (omega arith);
  count = omega arith;
}

taken : (rest line behind : List ℕ) → lines_of rest ≡ line ∷ lines_of behind
    → unended_of rest ≡ unended_of behind → job_lines rest ≡ line ∷ job_lines behind
taken rest line behind lines unended =
    ap (λ (ls : List (List ℕ)). ls ++ unended_of rest ∷ []) lines
    ∙ ap (λ (last : List ℕ). line ∷ (lines_of behind ++ last ∷ [])) unended

pub left_next : (text : List ℕ) (place : ℕ) (rest line behind : List ℕ) → LeftFrom text place rest
    → lines_of rest ≡ line ∷ lines_of behind → unended_of rest ≡ unended_of behind
    → LeftFrom text (place + 1) behind
left_next text place rest line behind left lines unended = record {
  lines = λ k. sym (ap (λ (ls : List (List ℕ)). slice_get ls (suc k))
      (taken rest line behind lines unended))
      ∙ left.lines (suc k)
      ∙ ap (λ (n : ℕ). slice_get (job_lines text) n) (omega arith);
  count = omega (arith, left.count, ap (λ (ls : List (List ℕ)). length ls) lines);
}

-- the name of the line at this place
pub name_here : (text : List ℕ) (place : ℕ) (rest line behind : List ℕ) → LeftFrom text place rest
    → lines_of rest ≡ line ∷ lines_of behind → unended_of rest ≡ unended_of behind
    → name_at (job_lines text) place ≡ name_of line
name_here text place rest line behind left lines unended =
    ap (λ (n : ℕ). name_at (job_lines text) n) (omega arith)
    ∙ sym (ap (λ (o : Option (List ℕ)). option_and_then name_of o) (left.lines 0))
    ∙ ap (λ (ls : List (List ℕ)). name_at ls 0) (taken rest line behind lines unended)

pub found_here : (text : List ℕ) (place : ℕ) (rest line behind name : List ℕ)
    → LeftFrom text place rest → lines_of rest ≡ line ∷ lines_of behind
    → unended_of rest ≡ unended_of behind → name_of line ≡ Some name
    → name_at (job_lines text) place ≡ Some name
found_here text place rest line behind name left lines unended is =
    name_here text place rest line behind left lines unended ∙ is

pub not_so_far : (text : List ℕ) (place : ℕ) (rest line behind name : List ℕ)
    → LeftFrom text place rest → lines_of rest ≡ line ∷ lines_of behind
    → unended_of rest ≡ unended_of behind
    → ((k : ℕ) → k < place → name_at (job_lines text) k ≢ Some name) → name_of line ≢ Some name
    → (k : ℕ) → k < place + 1 → name_at (job_lines text) k ≢ Some name
not_so_far text place rest line behind name left lines unended before not k below is =
    by_case (cases_eq k place)
  where
    by_case : (k ≡ place) ⊎ (k ≡ place → ⊥) → ⊥
    by_case (inl same) = not (sym (name_here text place rest line behind left lines unended)
        ∙ ap (λ (n : ℕ). name_at (job_lines text) n) (sym same) ∙ is)
    by_case (inr other) = before k (omega (arith, below, other)) is

-- ---- the first double

-- a line has at least one byte, the one that ends it
but_last-length : (parts : List (List ℕ)) → length (all_but_last parts) ≤ length parts - 1
but_last-length [] = omega arith
but_last-length (part ∷ []) = omega arith
but_last-length (part ∷ next ∷ parts) = omega (arith, but_last-length (next ∷ parts))

pub lines_few : (text : List ℕ) → length (lines_of text) ≤ length text
unfolding lines_of
lines_few text =
    omega (
      arith,
      but_last-length (parts_at 10 text),
      length-slice_split (is_byte 10) text,
      count_by-le-length (is_byte 10) text,
    )

-- the name of one line more
pub names_next : (old new : TextFilter) (lines : List (List ℕ)) (place : ℕ) (line : List ℕ)
    → name_at lines place ≡ name_of line → HasNames old lines place
    → ((name : List ℕ) → name_of line ≡ Some name → has_place new name ≡ true)
    → ((name : List ℕ) → has_place old name ≡ true → has_place new name ≡ true)
    → HasNames new lines (place + 1)
names_next old new lines place line here has added kept k below name is =
    by_case (cases_eq k place)
  where
    by_case : (k ≡ place) ⊎ (k ≡ place → ⊥) → has_place new name ≡ true
    by_case (inl same) = added name (sym here ∙ ap (name_at lines) (sym same) ∙ is)
    by_case (inr other) = kept name (has k (omega (arith, below, other)) name is)

pub no_double_next : (lines : List (List ℕ)) (place : ℕ)
    → ((first second : ℕ) → second < place → ¬ (AreDouble lines first second))
    → ((first : ℕ) → ¬ (AreDouble lines first place))
    → (first second : ℕ) → second < place + 1 → ¬ (AreDouble lines first second)
no_double_next lines place before here first second below double = by_case (cases_eq second place)
  where
    by_case : (second ≡ place) ⊎ (second ≡ place → ⊥) → ⊥
    by_case (inl same) = here first (subst (λ (n : ℕ). AreDouble lines first n) same double)
    by_case (inr other) = before first second (omega (arith, below, other)) double

-- only the last line is left
last_left : (rest : List ℕ) → lines_of rest ≡ [] → unended_of rest ≡ rest
    → job_lines rest ≡ rest ∷ []
last_left rest lines unended =
    ap (λ (ls : List (List ℕ)). ls ++ unended_of rest ∷ []) lines
    ∙ ap (λ (last : List ℕ). last ∷ []) unended

pub name_last : (text : List ℕ) (place : ℕ) (rest : List ℕ) → LeftFrom text place rest
    → lines_of rest ≡ [] → unended_of rest ≡ rest → name_at (job_lines text) place ≡ name_of rest
name_last text place rest left lines unended =
    ap (λ (n : ℕ). name_at (job_lines text) n) (omega arith)
    ∙ sym (ap (λ (o : Option (List ℕ)). option_and_then name_of o) (left.lines 0))
    ∙ ap (λ (ls : List (List ℕ)). name_at ls 0) (last_left rest lines unended)

no_name_after : (text : List ℕ) (place : ℕ) (rest : List ℕ) (k : ℕ) → LeftFrom text place rest
    → lines_of rest ≡ [] → unended_of rest ≡ rest → name_at (job_lines text) (place + suc k) ≡ None
no_name_after text place rest k left lines unended =
    sym (ap (λ (o : Option (List ℕ)). option_and_then name_of o) (left.lines (suc k)))
    ∙ ap (λ (ls : List (List ℕ)). name_at ls (suc k)) (last_left rest lines unended)

pub no_double : (text : List ℕ) (place : ℕ) (rest : List ℕ) → LeftFrom text place rest
    → lines_of rest ≡ [] → unended_of rest ≡ rest
    → ((first second : ℕ) → second < place → ¬ (AreDouble (job_lines text) first second))
    → ((first : ℕ) → ¬ (AreDouble (job_lines text) first place)) → ¬ (HasDouble (job_lines text))
no_double text place rest left lines unended before here double = by_case (cases_lt place second)
  where
    second : ℕ
    second = double.1

    by_case : (place < second) ⊎ (second ≤ place) → ⊥
    by_case (inl after) =
        let none : name_at (job_lines text) second ≡ None =
        ap (λ (n : ℕ). name_at (job_lines text) n) (omega (arith, after))
        ∙ no_name_after text place rest (second - place - 1) left lines unended in
        let both : None ≡ Some double.2.name = sym none ∙ double.2.of_second in
        absurd cc
    by_case (inr below) =
        no_double_next (job_lines text) place before here double.0 second
        (omega (arith, below)) double.2
