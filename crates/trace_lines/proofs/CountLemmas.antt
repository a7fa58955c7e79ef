-- The line of the number of events, or the line `events -`.
use Rattle.std.proofs.Common.{◌≡◌, ◌≤◌, ℕ, suc, Bool, true, false, nat_eq, codes, List, [], ◌∷◌}
use Rattle.std.proofs.Common.{length, Option, Some, None, Result, Ok, Err, refl, ap, sym, ◌∙◌}
use Rattle.std.proofs.Common.{inl, inr}
use Rattle.std.specs.Cmp.Lexicographic.{pointwise}
use Rattle.wire_bytes.specs.Outcome.{◌>>=◌}
use Rattle.wire_bytes.proofs.OutcomeLemmas.{bind_ok, chosen, done}
use Rattle.text_lines.specs.Lines.{is_row, rows_text, text_of}
use Rattle.text_lines.specs.Numbers.{number_of}
use Rattle.text_lines.specs.Words.{line_of}
use Rattle.trace_words.proofs.LabelsBack.{labelled_read}
use Rattle.trace_words.proofs.PlaceLemmas as place
use Rattle.trace_words.proofs.WordLaws.{labelled_again}
use Rattle.trace_words.proofs.WordsBack.{same_is}
use Rattle.trace_words.specs.Labels.{number_row}
use Rattle.trace_words.specs.Places.{Place, first_as, line_as, line_result}
use Rattle.trace_words.specs.Reading.{number_in}
use Rattle.trace_words.specs.Rows.{Row, Word}
use Rattle.trace_words.specs.WholeLines.{before_zero}
use Rattle.trace_words.specs.declared.fault.RowFault.{RowFault}
use Rattle.trace_lines.proofs.EventLaws.{events_again}
use Rattle.trace_lines.specs.Events.{events_from, max_events}
use Rattle.trace_lines.specs.OpenCount.{count_at, count_from, count_in, counted_events, open_row}

-- `-` is no number
no_number : (n : ℕ) → number_in max_events (codes "-") ≡ Ok n → ⊥
unfolding number_of
no_number n e = absurd cc

-- a number is read as one
number_stated : (word : Word) (n : ℕ) → number_in max_events word ≡ Ok n → count_in word
    ≡ Ok (Some n)
number_stated word n e = by (pointwise nat_eq word (codes "-")) refl
  where
    by : (hyphen : Bool) → pointwise nat_eq word (codes "-") ≡ hyphen → count_in word ≡ Ok (Some n)
    by true is = absurd (no_number n (ap (number_in max_events) (sym (same_is word (codes "-") is))
        ∙ e))
    by false is = rw (is, e) refl

pub stated_again : (row : Row) (count : ℕ) → events_from row ≡ Ok count
    → count_from row ≡ Ok (Some count)
stated_again row count e =
    let read = labelled_read ℕ (codes "events") (number_in max_events) row count e in
    ap count_from read.1
    ∙ labelled_again (codes "events") count_in read.0 (Some count)
    (number_stated read.0 count read.2)

some_is : (m n : ℕ) → done RowFault (Some m) ≡ Ok (Some n) → m ≡ n
some_is m n e = cc

-- a word that states a number is that number, and one that states none is `-`
record Stated (word : Word) (count : ℕ) : Type 0 where
  read : number_in max_events word ≡ Ok count

word_back : (word : Word) (count : ℕ) → count_in word ≡ Ok (Some count) → Stated word count
word_back word count e =
    elim (chosen (pointwise nat_eq word (codes "-")) (done RowFault None)
    (number_in max_events word >>= λ n. Ok (Some n)) (Ok (Some count)) e) [
      | inl none ↦ let never = none.1 in absurd cc
      | inr some ↦
          let n = bind_ok (number_in max_events word) (λ n. done RowFault (Some n)) (Some count)
          some.1 in
          record { read = n.1 ∙ ap (λ (k : ℕ). Ok k) (some_is n.0 count n.2) }
    ]

hyphen_back : (word : Word) → count_in word ≡ Ok None → word ≡ codes "-"
hyphen_back word e =
    elim (chosen (pointwise nat_eq word (codes "-")) (done RowFault None)
    (number_in max_events word >>= λ n. Ok (Some n)) (Ok None) e) [
      | inl none ↦ same_is word (codes "-") none.0
      | inr some ↦
          let n = bind_ok (number_in max_events word) (λ n. done RowFault (Some n)) None some.1 in
          let never = n.2 in absurd cc
    ]

pub stated_back : (row : Row) (count : ℕ) → count_from row ≡ Ok (Some count)
    → events_from row ≡ Ok count
stated_back row count e =
    let read = labelled_read (Option ℕ) (codes "events") count_in row (Some count) e in
    ap events_from read.1
    ∙ labelled_again (codes "events") (number_in max_events) read.0 count
    (word_back read.0 count read.2).read

pub open_back : (row : Row) → count_from row ≡ Ok None → row ≡ open_row
open_back row e =
    let read = labelled_read (Option ℕ) (codes "events") count_in row None e in
    read.1 ∙ ap (λ (word : Word). codes "events" ∷ word ∷ []) (hyphen_back read.0 read.2)

pub open_again : count_from open_row ≡ Ok None
open_again = labelled_again (codes "events") count_in (codes "-") None refl

pub open_is_row : is_row open_row ≡ true
open_is_row = refl

-- its text
pub open_text : rows_text (open_row ∷ []) ≡ codes "events -\n"
unfolding rows_text text_of line_of
open_text = refl

pub ruleset counts = (open_again, open_back, stated_again, stated_back, open_is_row)

-- ---- at a place

-- a number that is written is read back
pub count_again : (count number : ℕ) (rows : List Row) (unended : List ℕ) → count ≤ 65536
    → count_at (record {
      number = number;
      rows = number_row (codes "events") count ∷ rows;
      unended = unended;
    }) ≡ Ok (count, record { number = suc number; rows = rows; unended = unended })
unfolding count_at
count_again count number rows unended le =
    let row = number_row (codes "events") count in
    let stated = stated_again row count (events_again count le) in
    rw (place.line_again count_from row (Some count) number rows unended stated) refl

-- no number is stated: the events are the lines before the first byte 0
pub open_count_again : (number : ℕ) (rows : List Row) (unended : List ℕ)
    → count_at (record { number = number; rows = open_row ∷ rows; unended = unended })
    ≡ Ok (
      length (before_zero rows),
      record {
        number = suc number;
        rows = before_zero rows;
        unended = [];
      },
    )
unfolding count_at
open_count_again number rows unended =
    rw (place.line_again count_from open_row None number rows unended open_again) refl

-- a line other than `events -` states a number
stated_first : (number : ℕ) (row : Row) (rows : List Row) (unended : List ℕ) (count : ℕ)
    (behind : Place) (read : Result (Option ℕ) RowFault) → (row ≡ open_row → ⊥)
    → count_from row ≡ read
    → (line_result read number rows unended >>= λ counted. Ok (counted_events counted.0 counted.1))
    ≡ Ok (count, behind)
    → line_result (events_from row) number rows unended ≡ Ok (count, behind)
stated_first number row rows unended count behind (Ok (Some n)) other is e =
    rw (stated_back row n is) e
stated_first number row rows unended count behind (Ok None) other is e =
    absurd (other (open_back row is))
stated_first number row rows unended count behind (Err fault) other is e = absurd cc

stated_rows : (number : ℕ) (rows : List Row) (unended : List ℕ) (count : ℕ) (behind : Place)
    → ((after : List Row) → rows ≡ open_row ∷ after → ⊥)
    → (first_as count_from number rows unended >>= λ counted.
    Ok (counted_events counted.0 counted.1)) ≡ Ok (count, behind)
    → first_as events_from number rows unended ≡ Ok (count, behind)
stated_rows number [] unended count behind other e = absurd cc
stated_rows number (row ∷ rows) unended count behind other e =
    stated_first number row rows unended count behind (count_from row)
    (λ is. other rows (ap (λ (r : Row). r ∷ rows) is)) refl e

pub count_back : (place : Place) (count : ℕ) (behind : Place)
    → ((after : List Row) → place.rows ≡ open_row ∷ after → ⊥)
    → count_at place ≡ Ok (count, behind) → line_as events_from place ≡ Ok (count, behind)
unfolding count_at line_as
count_back place count behind other e =
    stated_rows place.number place.rows place.unended count behind other e
