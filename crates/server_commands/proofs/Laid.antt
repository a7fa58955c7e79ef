-- The lines of a trace: those of its opening, that of the number of its events, and one for each
-- event.
use Rattle.std.proofs.Common.{◌≡◌, ℕ, zero, suc, ◌+◌, List, [], ◌∷◌, ◌++◌, length, Ok, refl, sym, ap, ◌∙◌, arith}
use Rattle.wire_bytes.proofs.OutcomeLemmas.{bind_ok, ok_is, refused_ok}
use Rattle.relay_core.specs.declared.opening.Opening.{Opening}
use Rattle.relay_recorder.specs.declared.trace.Trace.{Trace}
use Rattle.trace_openings.specs.OpeningFields.{version_from}
use Rattle.trace_lines.proofs.CountLemmas.{count_back}
use Rattle.trace_lines.specs.Events.{events_from}
use Rattle.trace_lines.specs.OpenCount.{count_at}
use Rattle.trace_openings.specs.OpeningReading.{opening_in, opening_from}
use Rattle.trace_words.specs.Places.{Place, ReadLines, place_of, line_as, value_at_end, ended_at}
use Rattle.trace_words.specs.Rows.{Row}
use Rattle.trace_words.specs.declared.version.Version.{Version}
use Rattle.trace_words.specs.declared.version.Version.TheVariants.{One, Two}
use Rattle.trace_player.specs.Traces.{events_at, trace_from, trace_of}
use Rattle.trace_player.specs.Versions.{IsCounted}
use Rattle.server_commands.specs.Heads.{IsLaidOut, lines_before}
use Rattle.trace_openings.proofs.OpeningTakes.{lines_behind, opening_in_takes}
use Rattle.trace_words.proofs.LinesTaken.{Takes, takes_then, takes_none, takes_line}
use Rattle.trace_words.proofs.PlacesBack.{line_read}

with_version : (version : Version) → suc (lines_behind version) ≡ lines_before version
with_version One = refl
with_version Two = refl

-- the opening that was read
record Opened (p : Place) (version : Version) (q : Place) : Type 0 where
  first : Row
  opening : List Row
  told : version_from first ≡ Ok version
  before : suc (length opening) ≡ lines_before version
  rows : p.rows ≡ first ∷ (opening ++ q.rows)
  unended : q.unended ≡ p.unended

opening_laid : (p : Place) (version : Version) (opening : Opening) (q : Place) → opening_from p
    ≡ Ok ((version, opening), q) → Opened p version q
unfolding opening_from
opening_laid p version opening q e =
    let b = bind_ok (line_as version_from p) _ ((version, opening), q) e in
    let line = line_read Version version_from p b.0.0 b.0.1 b.1 in
    let c = bind_ok (opening_in b.0.0 b.0.1) _ ((version, opening), q) b.2 in
    let same = ok_is ((b.0.0, c.0.0), c.0.1) ((version, opening), q) c.2 in
    let behind = opening_in_takes b.0.0 b.0.1 c.0.0 c.0.1 c.1 in
    let version_is : b.0.0 ≡ version = ap (λ (t : (Version × Opening) × Place). t.0.0) same in
    let place_is : c.0.1 ≡ q = ap (λ (t : (Version × Opening) × Place). t.1) same in record {
      first = line.row;
      opening = behind.rows;
      told = line.read ∙ ap (λ (v : Version). Ok v) version_is;
      before = ap (λ (n : ℕ). suc n) behind.long ∙ with_version b.0.0 ∙ ap lines_before version_is;
      rows = line.took.lines ∙ ap (λ (rows : List Row). line.row ∷ rows) (behind.took.lines
          ∙ ap (λ (place : Place). behind.rows ++ place.rows) place_is);
      unended = sym (ap (λ (place : Place). place.unended) place_is) ∙ behind.took.unended
          ∙ line.took.unended;
    }

events_takes : (version : Version) (count : ℕ) (place : Place)
    → Takes count place (events_at version count place)
unfolding events_at
events_takes version zero place = takes_none _ _
events_takes version (suc count) place = counted
    (takes_then 1 count _ _ _ (takes_line _ place) (λ event.
    counted_none (takes_then count 0 _ _ _ (events_takes version count event.1)
    (λ others. takes_none _ _))))
  where
    counted : {X : Type 0} {r : ReadLines X} → Takes (1 + count) place r → Takes (suc count) place r
    counted takes x q e =
        let t = takes x q e in
        record { rows = t.rows; long = omega (arith, t.long); took = t.took }

    counted_none : {X : Type 0} {r : ReadLines X} {p : Place} → Takes (count + 0) p r
        → Takes count p r
    counted_none takes x q e =
        let t = takes x q e in
        record { rows = t.rows; long = omega (arith, t.long); took = t.took }

-- nothing is left after the last line
nothing_is_left : {X : Type 0} (number : ℕ) (rows : List Row) (unended : List ℕ) (x y : X)
    → value_at_end number rows unended x ≡ Ok y → (rows ≡ []) × (unended ≡ [])
nothing_is_left number [] [] x y e = (refl, refl)
nothing_is_left number [] (byte ∷ bytes) x y e = absurd cc
nothing_is_left number (row ∷ rows) unended x y e = absurd cc

end_found : {X : Type 0} (p : Place) (x y : X) → ended_at p x ≡ Ok y → (p.rows ≡ [])
    × (p.unended ≡ [])
unfolding ended_at
end_found p x y e = nothing_is_left p.number p.rows p.unended x y e

trace_laid : (text : List ℕ) (trace : Trace) → IsCounted text
    → trace_from (place_of text) ≡ Ok trace → IsLaidOut text
unfolding trace_from
trace_laid text trace closed e =
    let a = bind_ok (opening_from (place_of text)) _ trace e in
    let opened = opening_laid (place_of text) a.0.0.0 a.0.0.1 a.0.1 a.1 in
    let b = bind_ok (count_at a.0.1) _ trace a.2 in
    let counted = count_back a.0.1 b.0.0 b.0.1 (λ (after : List Row) is.
    closed (opened.first ∷ opened.opening) after
    (opened.rows ∙ ap (λ (rows : List Row). opened.first ∷ (opened.opening ++ rows)) is)) b.1 in
    let line = line_read ℕ events_from a.0.1 b.0.0 b.0.1 counted in
    let c = bind_ok (events_at a.0.0.0 b.0.0 b.0.1) _ trace b.2 in
    let events = events_takes a.0.0.0 b.0.0 b.0.1 c.0.0 c.0.1 c.1 in
    let end = end_found c.0.1 _ trace c.2 in record {
      version = a.0.0.0;
      count = b.0.0;
      first = opened.first;
      opening = opened.opening;
      events_row = line.row;
      events = events.rows;
      rows = opened.rows ∙ ap (λ (rows : List Row). opened.first ∷ (opened.opening ++ rows))
          (line.took.lines ∙ ap (λ (rows : List Row). line.row ∷ rows) (events.took.lines
          ∙ ap (λ (rows : List Row). events.rows ++ rows) end.0));
      ended = sym opened.unended ∙ sym line.took.unended ∙ sym events.took.unended ∙ end.1;
      told = opened.told;
      before = opened.before;
      counted = line.read;
      all = events.long;
    }

-- the text of a trace that states the number of its events has as many lines as a trace has
pub laid_out : (text : List ℕ) (trace : Trace) → IsCounted text → trace_of text ≡ Ok trace
    → IsLaidOut text
unfolding trace_of
laid_out text trace closed e = trace_laid text trace closed
    (refused_ok _ _ (trace_from (place_of text)) trace e).1
