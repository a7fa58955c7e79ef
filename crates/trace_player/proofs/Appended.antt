-- A journal that was read is read with the events whose lines are appended to it.
use Rattle.std.proofs.Common.{◌≡◌, ℕ, suc, ◌≤◌, Bool, true, false, if◌then◌else◌, List, [], ◌∷◌}
use Rattle.std.proofs.Common.{◌++◌, length, map, drop, Result, Ok, Err, refl, sym, ap, ap₂, subst}
use Rattle.std.proofs.Common.{◌∙◌, append_assoc, append-nil, arith}
use Rattle.std.proofs.lemmas.List.{length-map}
use Rattle.wire_bytes.specs.Outcome.{◌>>=◌}
use Rattle.wire_bytes.proofs.OutcomeLemmas.{bind_ok, ok_is, refused_ok}
use Rattle.relay_events.specs.declared.event.Event.{Event}
use Rattle.relay_recorder.specs.declared.trace.Trace.{Trace}
use Rattle.std.specs.Prelude.{nat_lt}
use Rattle.text_lines.proofs.JoinedTexts.{unended_joined}
use Rattle.text_lines.proofs.LinesLemmas.{rows_again, unended_again}
use Rattle.std.specs.List.{list_all}
use Rattle.text_lines.proofs.Known.{rows_whole}
use Rattle.text_lines.specs.Lines.{is_row, rows_of, rows_text, unended_of}
use Rattle.text_lines.specs.Words.{line_of}
use Rattle.trace_lines.proofs.CountLemmas.{open_count_again}
use Rattle.trace_lines.specs.Events.{event_of}
use Rattle.trace_lines.specs.OpenCount.{count_at, open_row}
use Rattle.trace_lines.specs.Writing.{event_row}
use Rattle.trace_openings.proofs.OpeningLocal.{opening_local}
use Rattle.trace_openings.proofs.OpeningTakes.{lines_behind}
use Rattle.trace_openings.specs.OpeningReading.{opening_from}
use Rattle.trace_openings.specs.OpeningTraced.{IsWritable}
use Rattle.trace_words.proofs.PlaceLemmas.{line_again, place}
use Rattle.trace_words.proofs.PlacesBack.{line_read}
use Rattle.trace_words.proofs.WholeAgain.{whole_ended, whole_rows}
use Rattle.trace_words.proofs.WholeLemmas.{rows_joined}
use Rattle.trace_words.specs.Places.{Place, ended_at, line_as, place_of}
use Rattle.trace_words.specs.Rows.{Row}
use Rattle.trace_words.specs.WholeLines.{IsTail, before_zero, has_zero, whole_text}
use Rattle.trace_words.specs.declared.fault.TraceFault.{TraceFault}
use Rattle.trace_words.specs.declared.fault.TraceFault.TheVariants.{TooLong}
use Rattle.trace_words.specs.declared.version.Version.{Version}
use Rattle.trace_words.specs.declared.version.Version.TheVariants.{Two}
use Rattle.trace_player.proofs.JournalAgain.{events_kept, journal_rows_are}
use Rattle.trace_player.proofs.Recovered.{HasHead, ends_same, number_behind, open_plain, plain_kept}
use Rattle.trace_player.proofs.Recovered.{text_has_head}
use Rattle.trace_player.proofs.TraceAgain.{HasRows, OpensAgain}
use Rattle.trace_player.proofs.TraceAgain.{are_rows, behind_events, events_again, short_enough}
use Rattle.trace_player.proofs.TraceBack.{ended_back, version_two}
use Rattle.trace_player.specs.Journals.{IsJournal, events_text, journal_rows, journal_text}
use Rattle.trace_player.specs.Journals.{with_events}
use Rattle.trace_player.specs.Traces.{events_at, max_bytes, trace_from, trace_of}
use Rattle.trace_player.specs.Written.{AreTraced}

-- ---- lines without a byte 0

kept_front : (rows others : List Row) → before_zero rows ≡ rows
    → before_zero (rows ++ others) ≡ rows ++ before_zero others
kept_front [] others kept = refl
kept_front (row ∷ rows) others kept =
    by (has_zero (line_of row)) refl kept (kept_front rows others)
  where
    by : (zero : Bool) → has_zero (line_of row) ≡ zero
        → (if zero then [] else row ∷ before_zero rows) ≡ row ∷ rows
        → (before_zero rows ≡ rows → before_zero (rows ++ others) ≡ rows ++ before_zero others)
        → (if zero then [] else row ∷ before_zero (rows ++ others))
        ≡ row ∷ (rows ++ before_zero others)
    by true is e next = absurd cc
    by false is e next =
        ap (λ (rest : List Row). row ∷ rest) (next (ap (λ (rs : List Row). drop 1 rs) e))

-- ---- events

-- events that were read, and more
record ReadMore (number : ℕ) (rows : List Row) (events more : List Event) : Type 0 where
  end : ℕ
  read : events_at Two (length (rows ++ map event_row more))
      (place number (rows ++ map event_row more) []) ≡ Ok (events ++ more, place end [] [])

more_again : (number : ℕ) (events more : List Event) → AreTraced more → [] ≡ events
    → ReadMore number [] events more
more_again number events more are none = record {
  end = behind_events number more;
  read =
      ap (λ (n : ℕ). events_at Two n (place number (map event_row more) []))
      (length-map more event_row)
      ∙ events_again more number are
      ∙ ap (λ (es : List Event). Ok (es ++ more, place (behind_events number more) [] [])) none;
}

first_is : (a b : Row) (rows others : List Row) → a ∷ rows ≡ b ∷ others → a ≡ b
first_is a b rows others e = cc

events_more : (rows : List Row) (number : ℕ) (events : List Event) (behind : Place)
    (more : List Event) → AreTraced more
    → events_at Two (length rows) (place number rows []) ≡ Ok (events, behind)
    → ReadMore number rows events more
unfolding events_at
events_more [] number events behind more are e =
    more_again number events more are
    (ap (λ (p : List Event × Place). p.0) (ok_is ([], place number [] []) (events, behind) e))
events_more (row ∷ rows) number events behind more are e =
    let first = bind_ok (line_as (event_of Two) (place number (row ∷ rows) [])) _ (events, behind) e
    in
    let others = bind_ok (events_at Two (length rows) first.0.1) _ (events, behind) first.2 in
    let line = line_read Event (event_of Two) (place number (row ∷ rows) []) first.0.0 first.0.1
    first.1 in
    let n : first.0.1.number ≡ suc number = omega (arith, line.took.number) in
    let rest : first.0.1.rows ≡ rows = sym (ap (λ (rs : List Row). drop 1 rs) line.took.lines) in
    let here : event_of Two row ≡ Ok first.0.0 =
    ap (event_of Two) (first_is row line.row rows first.0.1.rows line.took.lines) ∙ line.read in
    let at : first.0.1 ≡ place (suc number) rows [] =
    ap₂ (λ (k : ℕ) (rs : List Row). place k rs first.0.1.unended) n rest
    ∙ ap (λ (u : List ℕ). place (suc number) rows u) line.took.unended in
    let inner = events_more rows (suc number) others.0.0 others.0.1 more are
    (ap (events_at Two (length rows)) (sym at) ∙ others.1) in
    let is = ap (λ (p : List Event × Place). p.0)
    (ok_is (first.0.0 ∷ others.0.0, others.0.1) (events, behind) others.2) in
    let all = rows ++ map event_row more in
    record {
      end = inner.end;
      read =
          rw (line_again (event_of Two) row first.0.0 number all [] here, inner.read)
          (ap (λ (es : List Event). Ok (es ++ more, place inner.end [] [])) is);
    }

-- ---- all of it

from_appended : (rows : List Row) (trace : Trace) (more : List Event) (others : List Row)
    (unended : List ℕ) → HasHead rows → before_zero rows ≡ rows → AreTraced more
    → before_zero others ≡ []
    → trace_from (place 1 rows []) ≡ Ok trace
    → trace_from (place 1 (rows ++ (map event_row more ++ others)) unended)
    ≡ Ok (with_events trace more)
unfolding trace_from ended_at
from_appended rows trace more others unended head kept are tail e =
    let start : Place = place 1 rows [] in
    let opening = bind_ok (opening_from start) _ trace e in
    let version = opening.0.0.0 in
    let o = opening.0.0.1 in
    let behind = opening.0.1 in
    let two = version_two start head.others version o behind head.first opening.1 in
    let read = opening_local start (version, o) behind opening.1 in
    let number = number_behind start version o behind opening.1 in
    let thirty : suc (lines_behind version) ≡ 30 = ap (λ (v : Version). suc (lines_behind v)) two in
    let long : length read.front ≡ length head.front =
    omega (arith, number, thirty, read.took.number, head.long) in
    let after = head.after in
    let rest : behind.rows ≡ open_row ∷ after =
    ends_same read.front head.front behind.rows (open_row ∷ after)
    (sym read.took.lines ∙ head.split) long in
    let lines : rows ≡ read.front ++ open_row ∷ after =
    read.took.lines ∙ ap (λ (rs : List Row). read.front ++ rs) rest in
    let whole : before_zero rows ≡ read.front ++ open_row ∷ before_zero after =
    ap before_zero lines ∙ plain_kept read.front (open_row ∷ after) read.each
    ∙ ap (λ (zero : Bool). read.front ++ (if zero then [] else open_row ∷ before_zero after))
    open_plain in
    let same : before_zero after ≡ after = ap (λ (rs : List Row). drop 1 rs)
    (ends_same read.front read.front (open_row ∷ before_zero after) (open_row ∷ after)
    (sym whole ∙ kept ∙ lines) refl) in
    let counted : count_at behind ≡ Ok (length after, place (suc behind.number) after []) =
    ap (λ (rs : List Row). count_at (place behind.number rs behind.unended)) rest
    ∙ open_count_again behind.number after behind.unended
    ∙ ap (λ (rs : List Row). Ok (length rs, place (suc behind.number) rs [])) same in
    let count = bind_ok (count_at behind) _ trace opening.2 in
    let is = ok_is count.0 (length after, place (suc behind.number) after [])
    (sym count.1 ∙ counted) in
    let events = subst (λ (c : ℕ × Place). (events_at version c.0 c.1
    >>= λ (es : List Event × Place). ended_at es.1 (record { opening = o; events = es.0 }))
    ≡ Ok trace) is count.2 in
    let found = bind_ok (events_at version (length after) (place (suc behind.number) after [])) _
    trace events in
    let end = ended_back found.0.1 (record { opening = o; events = found.0.0 }) trace found.2 in
    let in_two = subst (λ (v : Version). events_at v (length after)
    (place (suc behind.number) after []) ≡ Ok found.0) two found.1 in
    let both = events_more after (suc behind.number) found.0.0 found.0.1 more are in_two in
    let others_kept : before_zero (after ++ (map event_row more ++ others))
    ≡ after ++ map event_row more =
    kept_front after (map event_row more ++ others) same
    ∙ ap (λ (rs : List Row). after ++ rs) (events_kept more others are
    ∙ ap (λ (rs : List Row). map event_row more ++ rs) tail ∙ append-nil (map event_row more)) in
    let joined : rows ++ (map event_row more ++ others)
    ≡ read.front ++ (open_row ∷ (after ++ (map event_row more ++ others))) =
    ap (λ (rs : List Row). rs ++ (map event_row more ++ others)) lines
    ∙ append_assoc read.front (open_row ∷ after) (map event_row more ++ others) in
    let again = read.again (open_row ∷ (after ++ (map event_row more ++ others))) unended in
    let recount = open_count_again behind.number (after ++ (map event_row more ++ others)) unended
    in
    let again_two = subst (λ (v : Version). opening_from (place 1
    (read.front ++ (open_row ∷ (after ++ (map event_row more ++ others)))) unended)
    ≡ Ok (
      (v, o),
      place behind.number (open_row ∷ (after ++ (map event_row more ++ others)))
          unended,
    )) two again in
    rw (joined, again_two, recount, others_kept, both.read)
    (ap (λ (t : Trace). Ok (with_events t more)) end.2)

appended_place : (text : List ℕ) (more : List Event) (tail : List ℕ) → unended_of text ≡ []
    → AreTraced more → place_of (text ++ events_text more ++ tail)
    ≡ place 1 (rows_of text ++ (map event_row more ++ rows_of tail)) (unended_of tail)
appended_place text more tail ended are =
    let lines = events_text more in
    let all = are_rows more are in
    let rows : rows_of (text ++ lines ++ tail)
    ≡ rows_of text ++ (map event_row more ++ rows_of tail) =
    ap rows_of (append_assoc text lines tail) ∙ rows_joined text (lines ++ tail) ended
    ∙ ap (λ (rs : List Row). rows_of text ++ rs) (rows_again (map event_row more) tail all) in
    let unended : unended_of (text ++ lines ++ tail) ≡ unended_of tail =
    ap unended_of (append_assoc text lines tail) ∙ unended_joined text (lines ++ tail) ended
    ∙ unended_again (map event_row more) tail all in
    ap₂ (λ (rs : List Row) (u : List ℕ). place 1 rs u) rows unended

pub appended_again : (text : List ℕ) (trace : Trace) (more : List Event) (tail : List ℕ)
    → IsJournal text → trace_of text ≡ Ok trace → whole_text text ≡ text → AreTraced more
    → IsTail tail → length (text ++ events_text more ++ tail) ≤ max_bytes
    → trace_of (text ++ events_text more ++ tail) ≡ Ok (with_events trace more)
unfolding trace_of
appended_again text trace more tail is e whole are is_tail le =
    let read = refused_ok (nat_lt max_bytes (length text)) TooLong
    (trace_from (place_of text)) trace e in
    let ended : unended_of text ≡ [] = ap unended_of (sym whole) ∙ whole_ended text in
    let kept : before_zero (rows_of text) ≡ rows_of text =
    sym (ap rows_of (sym whole) ∙ whole_rows text) in
    let new = text ++ events_text more ++ tail in
    let short = short_enough (length new) le in
    let choice : Bool → Result Trace TraceFault =
    λ long. if long then Err TooLong else trace_from (place_of new) in
    let from = ap (λ (u : List ℕ). trace_from (place 1 (rows_of text) u)) (sym ended) ∙ read.1 in
    ap choice short ∙ ap trace_from (appended_place text more tail ended are)
    ∙ from_appended (rows_of text) trace more (rows_of tail) (unended_of tail)
    (text_has_head text is) kept are is_tail from

-- ---- what is written is whole

-- lines of words without a byte 0 are their own whole text
whole_is : (rows : List Row) → list_all is_row rows ≡ true → before_zero rows ≡ rows
    → whole_text (rows_text rows) ≡ rows_text rows
whole_is rows are kept =
    ap (λ (rs : List Row). rows_text (before_zero rs)) (rows_whole rows are) ∙ ap rows_text kept

pub events_whole : (events : List Event) → AreTraced events
    → whole_text (events_text events) ≡ events_text events
events_whole events are =
    let rows = map event_row events in
    let all = append-nil rows in
    whole_is rows (are_rows events are)
    (ap before_zero (sym all) ∙ events_kept events [] are ∙ all)

pub journal_whole : OpensAgain → HasRows → (trace : Trace) → IsWritable trace.opening
    → AreTraced trace.events → whole_text (journal_text trace) ≡ journal_text trace
journal_whole opens has trace writable are =
    let events : List Row = map event_row trace.events in
    let rows : List Row = open_row ∷ events in
    let start : Place = place 1 (journal_rows trace) [] in
    let behind : Place = place 31 rows [] in
    let read = opening_local start (Two, trace.opening) behind
    (opens trace.opening rows [] writable) in
    let all = append-nil events in
    let events_are : before_zero events ≡ events =
    ap before_zero (sym all) ∙ events_kept trace.events [] are ∙ all in
    let rows_kept : before_zero rows ≡ rows =
    ap (λ (zero : Bool). if zero then [] else open_row ∷ before_zero events) open_plain
    ∙ ap (λ (rs : List Row). open_row ∷ rs) events_are in
    whole_is (journal_rows trace) (journal_rows_are has trace writable are)
    (ap before_zero read.took.lines ∙ plain_kept read.front rows read.each
    ∙ ap (λ (rs : List Row). read.front ++ rs) rows_kept ∙ sym read.took.lines)
