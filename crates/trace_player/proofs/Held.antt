-- The lines after an opening, in the text that contains them.
use Rattle.std.proofs.Common.{◌≡◌, ℕ, ◌+◌, ◌-◌, ◌<◌, ◌≤◌, ◌^◌, List, [], ◌∷◌, ◌++◌, length, length-append, drop}
use Rattle.std.proofs.Common.{Option, Ok, refl, sym, ap, ◌∙◌, arith, inl, inr}
use Rattle.wire_bytes.specs.Outcome.{Fails}
use Rattle.relay_core.specs.declared.opening.Opening.{Opening}
use Rattle.text_lines.specs.Lines.{rows_text}
use Rattle.trace_words.proofs.HeldLemmas.{behind_front, text_behind}
use Rattle.trace_words.proofs.PlaceLemmas.{rows_are_few}
use Rattle.trace_words.proofs.PlacesBack.{Took, then, line_read}
use Rattle.trace_words.specs.Places.{Place, line_as, place_at, place_of}
use Rattle.trace_words.specs.Rows.{Row}
use Rattle.trace_words.specs.declared.fault.TraceFault.{TraceFault}
use Rattle.trace_words.specs.declared.fault.TraceFault.TheVariants.{Memory}
use Rattle.trace_words.specs.declared.version.Version.{Version}
use Rattle.trace_openings.proofs.OpeningTakes.{opening_stands}
use Rattle.trace_openings.specs.OpeningReading.{opening_from}
use Rattle.trace_lines.specs.OpenCount.{count_at, count_from}
use Rattle.trace_player.specs.Traces.{max_bytes, trace_after, trace_from}

-- the events of a trace are in the last bytes of its text
pub record IsHeld (text rest : List ℕ) (version : Version) (counted : Option ℕ) (opening : Opening)
    (number : ℕ) : Type 0 where
  pub within : length rest ≤ length text
  pub few : number + length text < 2 ^ 64
  pub is : trace_after version counted opening
      (place_at number (drop (length text - length rest) text)) ≡ trace_from (place_of text)

-- an opening and the number of the events were read, and the trace is that of the events that
-- follow
trace_is : (start middle behind : Place) (version : Version) (opening : Opening)
    (counted : Option ℕ) → opening_from start ≡ Ok ((version, opening), middle)
    → line_as count_from middle ≡ Ok (counted, behind)
    → trace_after version counted opening behind ≡ trace_from start
unfolding trace_from count_at
trace_is start middle behind version opening counted opened stated = rw (opened, stated) refl

pub held_behind : (text bytes rest : List ℕ) (version : Version) (opening : Opening)
    (counted : Option ℕ) (number : ℕ) (start middle behind : Place) → length text ≤ max_bytes
    → start ≡ place_of bytes → bytes ≡ text
    → opening_from start ≡ Ok ((version, opening), middle) → line_as count_from middle
    ≡ Ok (counted, behind) → number ≡ behind.number → place_at behind.number rest ≡ behind
    → IsHeld text rest version counted opening number
held_behind text bytes rest version opening counted number start middle behind short is_start
    is_text opened stated numbered at =
    let place : start ≡ place_of text = is_start ∙ ap place_of is_text in
    let from_text = ap opening_from (sym place) ∙ opened in
    let front = opening_stands (place_of text) (version, opening) middle from_text in
    let line = line_read (Option ℕ) count_from middle counted behind stated in
    let rows : List Row = front.0 ++ line.row ∷ [] in
    let took : Took rows (place_of text) behind =
    then front.0 (line.row ∷ []) (place_of text) middle behind front.1 line.took in
    let is = text_behind 1 behind.number text rest rows behind took at in
    let end = behind_front text (rows_text rows) rest is in
    let long : length text ≡ length (rows_text rows) + length rest =
    ap (λ (them : List ℕ). length them) is ∙ length-append (rows_text rows) rest in
    let few = rows_are_few rows in
    let lines = took.number in
    record {
      within = end.0;
      few = omega (arith, short, long, few, lines, numbered);
      is = ap (trace_after version counted opening)
          (ap (λ (n : ℕ). place_at n (drop (length text - length rest) text)) numbered
          ∙ ap (place_at behind.number) end.1 ∙ at)
          ∙ trace_is (place_of text) middle behind version opening counted from_text stated;
    }

-- the number of the events cannot be read
pub count_fails : (text bytes : List ℕ) (version : Version) (opening : Opening)
    (start middle : Place) (fault : TraceFault) → start ≡ place_of bytes → bytes ≡ text
    → opening_from start ≡ Ok ((version, opening), middle)
    → Fails Memory fault (line_as count_from middle)
    → Fails Memory fault (trace_from (place_of text))
unfolding trace_from count_at
count_fails text bytes version opening start middle fault is_start is_text opened
    (inl memory) = inl memory
count_fails text bytes version opening start middle fault is_start is_text opened (inr fails) =
    let from_text = ap opening_from (sym (is_start ∙ ap place_of is_text)) ∙ opened in
    inr (rw (from_text, fails) refl)
