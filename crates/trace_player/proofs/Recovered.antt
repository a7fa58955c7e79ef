-- A journal is read as the same trace after all that follows its last whole line was cut.
use Rattle.std.proofs.Common.{◌≡◌, ℕ, suc, ◌+◌, ◌≤◌, Bool, true, false, nat_lt, if◌then◌else◌}
use Rattle.std.proofs.Common.{codes, decimal, List, [], ◌∷◌, ◌++◌, length, map, take, drop, Result}
use Rattle.std.proofs.Common.{Ok, Err}
use Rattle.std.proofs.Common.{refl, sym, ap, ap₂, subst, ◌∙◌, arith}
use Rattle.std.proofs.lemmas.Bool.Decides.{nat_tests}
use Rattle.std.proofs.lemmas.Fmt.{decimal_digit}
use Rattle.std.proofs.lemmas.List.{length-drop, length-map, length-take, map-append}
use Rattle.std.proofs.lemmas.List.{take-append-drop}
use Rattle.wire_bytes.specs.Outcome.{◌>>=◌}
use Rattle.wire_bytes.proofs.OutcomeLemmas.{bind_ok, ok_is, refused_ok}
use Rattle.relay_core.specs.declared.opening.Opening.{Opening}
use Rattle.relay_events.specs.declared.event.Event.{Event}
use Rattle.relay_recorder.specs.declared.trace.Trace.{Trace}
use Rattle.text_lines.proofs.WordsLemmas.{words_again}
use Rattle.text_lines.specs.Lines.{lines_of, rows_of, unended_of}
use Rattle.text_lines.specs.Words.{line_of, words_of}
use Rattle.trace_lines.proofs.CountLemmas.{open_count_again}
use Rattle.trace_lines.specs.OpenCount.{count_at, open_row}
use Rattle.trace_openings.proofs.OpeningLocal.{opening_local}
use Rattle.trace_openings.proofs.OpeningTakes.{lines_behind, opening_in_takes}
use Rattle.trace_openings.specs.OpeningFields.{version_from}
use Rattle.trace_openings.specs.OpeningReading.{opening_from, opening_in}
use Rattle.trace_words.proofs.LocalReads.{Each}
use Rattle.trace_words.proofs.PlainReads.{IsPlainRow}
use Rattle.trace_words.proofs.PlacesBack.{line_read}
use Rattle.trace_words.proofs.WholeAgain.{whole_ended, whole_rows, whole_short}
use Rattle.trace_words.specs.Labels.{number_row}
use Rattle.trace_words.specs.Places.{Place, ended_at, line_as, place_of}
use Rattle.trace_words.specs.Rows.{Row}
use Rattle.trace_words.specs.WholeLines.{before_zero, has_zero, whole_text}
use Rattle.trace_words.specs.declared.fault.TraceFault.{TraceFault}
use Rattle.trace_words.specs.declared.fault.TraceFault.TheVariants.{TooLong}
use Rattle.trace_words.specs.declared.version.Version.{Version}
use Rattle.trace_player.proofs.TraceAgain.{short_enough}
use Rattle.trace_player.proofs.TraceBack.{version_two}
use Rattle.trace_player.specs.Journals.{IsJournal, StartsWith}
use Rattle.trace_player.specs.Traces.{events_at, max_bytes, trace_from, trace_of}

-- ---- the lines before the first byte 0

-- lines without a byte 0 are kept
pub plain_kept : (front others : List Row) → Each IsPlainRow front
    → before_zero (front ++ others) ≡ front ++ before_zero others
plain_kept [] others each = refl
plain_kept (row ∷ front) others each =
    rw each.0 (ap (λ (rows : List Row). row ∷ rows) (plain_kept front others each.1))

kept_again : (rows : List Row) → before_zero (before_zero rows) ≡ before_zero rows
kept_again [] = refl
kept_again (row ∷ rows) = by (has_zero (line_of row)) refl (kept_again rows)
  where
    by : (zero : Bool) → has_zero (line_of row) ≡ zero
        → before_zero (before_zero rows) ≡ before_zero rows
        → before_zero (if zero then [] else row ∷ before_zero rows)
        ≡ (if zero then [] else row ∷ before_zero rows)
    by true is others = refl
    by false is others = rw is (ap (λ (rest : List Row). row ∷ rest) others)

pub open_plain : has_zero (line_of open_row) ≡ false
unfolding line_of
open_plain = refl

-- ---- the lines of a journal

-- the lines of a text of version 2 whose line 31 is `events -`
pub record HasHead (rows : List Row) : Type 0 where
  pub others : List Row
  pub first : rows ≡ number_row (codes "RELAYTRACE") 2 ∷ others
  pub front : List Row
  pub long : length front ≡ 30
  pub after : List Row
  pub split : rows ≡ front ++ open_row ∷ after

-- the words of the two lines
version_words : words_of (codes "RELAYTRACE 2") ≡ number_row (codes "RELAYTRACE") 2
unfolding line_of
version_words =
    let two : decimal 2 ≡ codes "2" = decimal_digit 2 (omega arith) in
    let row : List (List ℕ) = codes "RELAYTRACE" ∷ codes "2" ∷ [] in
    let same : words_of (codes "RELAYTRACE 2") ≡ row = words_again row refl in
    same ∙ ap (λ (word : List ℕ). codes "RELAYTRACE" ∷ word ∷ []) (sym two)

open_words : words_of (codes "events -") ≡ open_row
unfolding line_of
open_words = words_again open_row refl

first_words : (lines : List (List ℕ)) → StartsWith lines (codes "RELAYTRACE 2")
    → (others : List Row) × (map words_of lines ≡ number_row (codes "RELAYTRACE") 2 ∷ others)
first_words [] is = absurd is
first_words (line ∷ lines) is = (
  map words_of lines,
  ap (λ (row : Row). row ∷ map words_of lines) (ap words_of is ∙ version_words),
)

last_words : (lines : List (List ℕ)) → StartsWith lines (codes "events -")
    → (after : List Row) × (map words_of lines ≡ open_row ∷ after) × (1 ≤ length lines)
last_words [] is = absurd is
last_words (line ∷ lines) is = (
  map words_of lines,
  ap (λ (row : Row). row ∷ map words_of lines) (ap words_of is ∙ open_words),
  omega arith,
)

has_head : (lines : List (List ℕ)) → StartsWith lines (codes "RELAYTRACE 2")
    → StartsWith (drop 30 lines) (codes "events -") → HasHead (map words_of lines)
has_head lines version opened =
    let first = first_words lines version in
    let last = last_words (drop 30 lines) opened in
    let some = last.2 in
    record {
      others = first.0;
      first = first.1;
      front = map words_of (take 30 lines);
      long = omega (
        arith,
        length-map (take 30 lines) words_of,
        length-take 30 lines,
        length-drop 30 lines,
        some,
      );
      after = last.0;
      split = ap (map words_of) (sym (take-append-drop 30 lines))
          ∙ map-append words_of (take 30 lines) (drop 30 lines)
          ∙ ap (λ (rows : List Row). map words_of (take 30 lines) ++ rows) last.1;
    }

pub text_has_head : (text : List ℕ) → IsJournal text → HasHead (rows_of text)
unfolding rows_of
text_has_head text is = has_head (lines_of text) is.0 is.1

-- ---- the opening

-- the number of the line after an opening
pub number_behind : (p : Place) (version : Version) (opening : Opening) (q : Place)
    → opening_from p ≡ Ok ((version, opening), q) → q.number ≡ p.number + suc (lines_behind version)
unfolding opening_from
number_behind p version opening q e =
    let b = bind_ok (line_as version_from p) _ ((version, opening), q) e in
    let line = line_read Version version_from p b.0.0 b.0.1 b.1 in
    let c = bind_ok (opening_in b.0.0 b.0.1) _ ((version, opening), q) b.2 in
    let same = ok_is ((b.0.0, c.0.0), c.0.1) ((version, opening), q) c.2 in
    let behind = opening_in_takes b.0.0 b.0.1 c.0.0 c.0.1 c.1 in
    let version_is : b.0.0 ≡ version = ap (λ (t : (Version × Opening) × Place). t.0.0) same in
    let number_is : c.0.1.number ≡ q.number =
    ap (λ (t : (Version × Opening) × Place). t.1.number) same in
    let long : lines_behind b.0.0 ≡ lines_behind version = ap lines_behind version_is in
    omega (arith, line.took.number, behind.took.number, behind.long, number_is, long)

-- two ends of a list after fronts of the same length
pub ends_same : (a b x y : List Row) → a ++ x ≡ b ++ y → length a ≡ length b → x ≡ y
ends_same [] [] x y e long = e
ends_same [] (row ∷ b) x y e long = absurd (omega (arith, long))
ends_same (row ∷ a) [] x y e long = absurd (omega (arith, long))
ends_same (row ∷ a) (other ∷ b) x y e long =
    ends_same a b x y (ap (λ (rows : List Row). drop 1 rows) e) (omega (arith, long))

-- ---- all of it

from_recovered : (rows : List Row) (unended : List ℕ) (trace : Trace) → HasHead rows
    → trace_from (record { number = 1; rows = rows; unended = unended }) ≡ Ok trace
    → trace_from (record { number = 1; rows = before_zero rows; unended = [] }) ≡ Ok trace
unfolding trace_from
from_recovered rows unended trace head e =
    let start : Place = record { number = 1; rows = rows; unended = unended } in
    let opening = bind_ok (opening_from start) _ trace e in
    let version = opening.0.0.0 in
    let o = opening.0.0.1 in
    let behind = opening.0.1 in
    let two = version_two start head.others version o behind head.first opening.1 in
    let read = opening_local start (version, o) behind opening.1 in
    let number = number_behind start version o behind opening.1 in
    let thirty : suc (lines_behind version) ≡ 30 = ap (λ (v : Version). suc (lines_behind v)) two in
    let long : length read.front ≡ length head.front =
    omega (arith, number, thirty, read.took.number, head.long) in
    let rest : behind.rows ≡ open_row ∷ head.after =
    ends_same read.front head.front behind.rows (open_row ∷ head.after)
    (sym read.took.lines ∙ head.split) long in
    let kept = before_zero head.after in
    let counted : count_at behind ≡ Ok (
      length kept,
      record {
        number = suc behind.number;
        rows = kept;
        unended = [];
      },
    ) = ap (λ (rs : List Row). count_at (record {
      number = behind.number;
      rows = rs;
      unended = behind.unended;
    })) rest ∙ open_count_again behind.number head.after behind.unended in
    let count = bind_ok (count_at behind) _ trace opening.2 in
    let same = ok_is count.0 (
      length kept,
      record {
        number = suc behind.number;
        rows = kept;
        unended = [];
      },
    ) (sym count.1 ∙ counted) in
    let events = subst (λ (c : ℕ × Place). (events_at version c.0 c.1
    >>= λ (es : List Event × Place). ended_at es.1 (record { opening = o; events = es.0 }))
    ≡ Ok trace) same count.2 in
    let lines : before_zero rows ≡ read.front ++ open_row ∷ kept =
    ap before_zero read.took.lines ∙ plain_kept read.front behind.rows read.each
    ∙ ap (λ (rs : List Row). read.front ++ before_zero rs) rest
    ∙ ap (λ (zero : Bool). read.front ++ (if zero then [] else open_row ∷ kept)) open_plain in
    let again = read.again (open_row ∷ kept) [] in
    let recount = open_count_again behind.number kept [] in
    rw (lines, again, recount, kept_again head.after) events

-- a text that is read as a trace is not too long
not_long : (n : ℕ) → nat_lt max_bytes n ≡ false → n ≤ max_bytes
not_long n e = grind (arith, nat_tests)

whole_place : (text : List ℕ) → place_of (whole_text text)
    ≡ record { number = 1; rows = before_zero (rows_of text); unended = [] }
whole_place text = ap₂ (λ (rows : List Row) (unended : List ℕ). record {
  number = 1;
  rows = rows;
  unended = unended;
}) (whole_rows text) (whole_ended text)

pub recovered_again : (text : List ℕ) (trace : Trace) → IsJournal text → trace_of text ≡ Ok trace
    → trace_of (whole_text text) ≡ Ok trace
unfolding trace_of
recovered_again text trace is e =
    let read = refused_ok (nat_lt max_bytes (length text)) TooLong
    (trace_from (place_of text)) trace e in
    let le = not_long (length text) read.0 in
    let short = short_enough (length (whole_text text)) (omega (arith, le, whole_short text)) in
    let choice : Bool → Result Trace TraceFault =
    λ long. if long then Err TooLong else trace_from (place_of (whole_text text)) in
    ap choice short ∙ ap trace_from (whole_place text)
    ∙ from_recovered (rows_of text) (unended_of text) trace (text_has_head text is) read.1
