-- The text of version 2 that a trace is read from is the text that is written for it, except for
-- the values of type Data in the lines of its opening.
use Rattle.std.proofs.Common.{◌≡◌, ℕ, zero, suc, nat_lt, List, [], ◌∷◌, ◌++◌, length, map, Ok, refl, sym, ap, ap₂, subst, ◌∙◌, arith, append-nil, codes}
use Rattle.wire_bytes.proofs.OutcomeLemmas.{ok_is, bind_ok, refused_ok}
use Rattle.relay_events.specs.declared.event.Event.{Event}
use Rattle.relay_core.specs.declared.opening.Opening.{Opening}
use Rattle.relay_recorder.specs.declared.trace.Trace.{Trace}
use Rattle.trace_lines.proofs.CountLemmas.{count_back}
use Rattle.trace_lines.proofs.EventLaws.{event_back, events_back}
use Rattle.trace_openings.proofs.OpeningBack.{opening_back, opening_lines, written_rows}
use Rattle.trace_openings.proofs.OpeningFieldLaws.{version_again}
use Rattle.trace_words.proofs.PlacesBack.{Took, then, line_read, line_back}
use Rattle.trace_lines.specs.Events.{event_of, events_from}
use Rattle.trace_lines.specs.OpenCount.{count_at}
use Rattle.trace_openings.specs.OpeningFields.{version_from}
use Rattle.trace_openings.specs.OpeningForms.{Forms, AreFormsOf, written_forms, rows_with}
use Rattle.trace_openings.specs.OpeningReading.{opening_in, opening_from}
use Rattle.trace_words.specs.Labels.{number_row}
use Rattle.trace_words.specs.Places.{Place, value_at_end, line_as, ended_at, place_of}
use Rattle.trace_words.specs.Rows.{Row}
use Rattle.trace_lines.specs.Writing.{event_row}
use Rattle.trace_words.specs.declared.fault.TraceFault.TheVariants.{TooLong}
use Rattle.trace_words.specs.declared.version.Version.{Version}
use Rattle.trace_words.specs.declared.version.Version.TheVariants.{Two}
use Rattle.trace_player.specs.Traces.{max_bytes, events_at, trace_from, trace_of, trace_text}
use Rattle.trace_player.specs.Versions.{IsCounted, IsOfVersionTwo, text_with}
use Rattle.text_lines.proofs.LinesLemmas.{rows_text-rows_of}
use Rattle.text_lines.specs.Lines.{rows_of, rows_text, unended_of}

-- ---- events

-- no line is read
nothing : (place : Place) → Took [] place place
nothing place = record { lines = refl; number = omega arith; unended = refl }

-- the lines of events, and their number
all_events_back : (version : Version) (count : ℕ) (place : Place) (events : List Event)
    (behind : Place) → events_at version count place ≡ Ok (events, behind)
    → (length events ≡ count) × Took (map event_row events) place behind
unfolding events_at
all_events_back version zero place events behind e =
    subst (λ (p : List Event × Place). (length p.0 ≡ 0) × Took (map event_row p.0) place p.1)
    (ok_is ([], place) (events, behind) e) (refl, nothing place)
all_events_back version (suc count) place events behind e =
    let first = bind_ok (line_as (event_of version) place) _ (events, behind) e in
    let others = bind_ok (events_at version count first.0.1) _ (events, behind) first.2 in
    let inner = all_events_back version count first.0.1 others.0.0 others.0.1 others.1 in
    let line = line_back Event (event_of version) event_row
    (λ row event h. sym (event_back version row event h)) place first.0.0 first.0.1 first.1 in
    let many = inner.0 in
    subst (λ (p : List Event × Place). (length p.0 ≡ suc count)
    × Took (map event_row p.0) place p.1)
    (ok_is (first.0.0 ∷ others.0.0, others.0.1) (events, behind) others.2) (
      omega (arith, many),
      then (event_row first.0.0 ∷ []) (map event_row others.0.0) place first.0.1
          others.0.1 line inner.1,
    )

-- ---- the end

none_left : (number : ℕ) (rows : List Row) (unended : List ℕ) (x y : Trace)
    → value_at_end number rows unended x ≡ Ok y → (rows ≡ []) × (unended ≡ []) × (x ≡ y)
none_left number [] [] x y e = (refl, refl, ok_is x y e)
none_left number [] (byte ∷ bytes) x y e = absurd cc
none_left number (row ∷ rows) unended x y e = absurd cc

pub ended_back : (place : Place) (x y : Trace) → ended_at place x ≡ Ok y → (place.rows ≡ [])
    × (place.unended ≡ []) × (x ≡ y)
unfolding ended_at
ended_back place x y e = none_left place.number place.rows place.unended x y e

-- ---- the version

first_is : (a b : Row) (rows others : List Row) → a ∷ rows ≡ b ∷ others → a ≡ b
first_is a b rows others e = cc

pub version_two : (place : Place) (rows : List Row) (version : Version) (o : Opening)
    (behind : Place)
    → place.rows ≡ number_row (codes "RELAYTRACE") 2 ∷ rows
    → opening_from place ≡ Ok ((version, o), behind) → version ≡ Two
unfolding opening_from
version_two place rows version o behind is e =
    let first = bind_ok (line_as version_from place) _ ((version, o), behind) e in
    let opening = bind_ok (opening_in first.0.0 first.0.1) _ ((version, o), behind) first.2 in
    let line = line_read Version version_from place first.0.0 first.0.1 first.1 in
    let row = first_is line.row (number_row (codes "RELAYTRACE") 2) first.0.1.rows rows
    (sym line.took.lines ∙ is) in
    sym (ap (λ (p : (Version × Opening) × Place). p.0.0)
    (ok_is ((first.0.0, opening.0.0), opening.0.1) ((version, o), behind) opening.2))
    ∙ ok_is first.0.0 Two (sym line.read ∙ ap version_from row ∙ version_again)

-- ---- all of it

-- the text of these lines, after which nothing is left
text_is : (text : List ℕ) (front middle others last events : List Row) (count : Row)
    (a b c : List ℕ)
    → rows_of text ≡ front ++ middle → middle ≡ (count ∷ []) ++ others → others ≡ events
    ++ last → last ≡ []
    → a ≡ unended_of text → b ≡ a → c ≡ b → c ≡ [] → text ≡ rows_text (front ++ count ∷ events)
text_is text front middle others last events count a b c is_front is_count is_events is_last is_a
    is_b is_c none =
    let rest : others ≡ events = is_events ∙ ap (λ (rows : List Row). events ++ rows) is_last
    ∙ append-nil events in
    let rows : rows_of text ≡ front ++ count ∷ events =
    is_front ∙ ap (λ (rows : List Row). front ++ rows) is_count
    ∙ ap (λ (rows : List Row). front ++ count ∷ rows) rest in
    let unended : unended_of text ≡ [] = sym is_a ∙ sym is_b ∙ sym is_c ∙ none in
    sym (rows_text-rows_of text)
    ∙ ap₂ (λ (rows : List Row) (unended : List ℕ). rows_text rows ++ unended) rows unended
    ∙ append-nil (rows_text (front ++ count ∷ events))

pub trace_back : (text : List ℕ) (trace : Trace) → IsOfVersionTwo text → IsCounted text
    → trace_of text ≡ Ok trace
    → (forms : Forms) × AreFormsOf trace.opening forms × (text ≡ text_with trace forms)
unfolding trace_of trace_from
trace_back text trace two closed e =
    let short = refused_ok (nat_lt max_bytes (length text)) TooLong
    (trace_from (place_of text)) trace e in
    let opening = bind_ok (opening_from (place_of text)) _ trace short.1 in
    let count = bind_ok (count_at opening.0.1) _ trace opening.2 in
    let events = bind_ok (events_at opening.0.0.0 count.0.0 count.0.1) _ trace count.2 in
    let o = opening.0.0.1 in
    let end = ended_back events.0.1 (record { opening = o; events = events.0.0 }) trace events.2 in
    let version = version_two (place_of text) two.0 opening.0.0.0 o opening.0.1 two.1 opening.1 in
    let read = subst (λ (v : Version). opening_from (place_of text)
    ≡ Ok ((v, o), opening.0.1)) version opening.1 in
    let front = opening_back (place_of text) o opening.0.1 read in
    let kept = opening_lines (place_of text) o opening.0.1 read in
    let counted = count_back opening.0.1 count.0.0 count.0.1 (λ (after : List Row) is.
    closed (rows_with o front.0) after
    (front.2 ∙ ap (λ (rows : List Row). rows_with o front.0 ++ rows) is)) count.1 in
    let line = line_back ℕ events_from (number_row (codes "events")) events_back opening.0.1
    count.0.0 count.0.1 counted in
    let them = all_events_back opening.0.0.0 count.0.0 count.0.1 events.0.0 events.0.1 events.1 in
    let whole =
    text_is text (rows_with o front.0) opening.0.1.rows count.0.1.rows events.0.1.rows
    (map event_row events.0.0) (number_row (codes "events") count.0.0)
    opening.0.1.unended count.0.1.unended events.0.1.unended
    front.2 line.lines them.1.lines end.0 kept.1 line.unended them.1.unended end.1 in
    subst (λ (t : Trace). (forms : Forms) × AreFormsOf t.opening forms
    × (text ≡ text_with t forms)) end.2 (
      front.0,
      front.1,
      subst (λ (n : ℕ). text ≡ rows_text (rows_with o front.0 ++ number_row (codes "events") n
          ∷ map event_row events.0.0)) (sym them.0) whole,
    )

-- with the values of type Data that are written, it is the text that is written
pub written_text : (trace : Trace) → text_with trace (written_forms trace.opening)
    ≡ trace_text trace
written_text trace = ap (λ (rows : List Row). rows_text (rows
    ++ number_row (codes "events") (length trace.events) ∷ map event_row trace.events))
    (written_rows trace.opening)
