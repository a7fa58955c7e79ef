-- Events that are read and applied and whose lines are written, one after the other.
use Rattle.std.proofs.Common.{◌≡◌, ℕ, suc, ◌+◌, ◌<◌, ◌≤◌, List, [], ◌∷◌, ◌++◌, length, refl, sym, ap, ◌∙◌, subst, append_assoc, arith}
use Rattle.std.proofs.lemmas.List.{length-append}
use Rattle.relay_core.specs.Machine.{at_event}
use Rattle.relay_core.specs.Runs.{line_at, lines_of, world_after}
use Rattle.relay_core.specs.Stands.{StandsFor}
use Rattle.relay_core.specs.World.{World}
use Rattle.relay_events.specs.declared.event.Event.{Event}
use Rattle.relay_events.specs.declared.reply.Line.{Line}
use Rattle.relay_core.specs.declared.relay.RelayCore.{RelayCore}
use Rattle.relay_core.proofs.RunLemmas.{world_after-append, lines_of-append}
use Rattle.trace_words.specs.Places.{Place}
use Rattle.trace_lines.specs.Replies.{line_text}
use Rattle.trace_words.specs.declared.version.Version.{Version}
use Rattle.trace_player.specs.Playing.{PlaysEvent, PlaysEvents, lines_text}
use Rattle.trace_player.specs.Traces.{events_at}
use Rattle.trace_player.proofs.EventsRead.{EventsRead, none_read, event_read, events_read}

-- the lines of a run followed by one more
lines_text-push : (number : ℕ) (lines : List Line) (line : Line)
    → lines_text number (lines ++ line ∷ []) ≡ lines_text number lines
    ++ line_text (length lines + number) line ++ 10 ∷ []
unfolding lines_text
lines_text-push number [] line =
    let k : length {A = Line} [] + number ≡ number = omega arith in
    ap (λ (n : ℕ). line_text n line ++ 10 ∷ []) (sym k)
lines_text-push number (first ∷ lines) line =
    let a = line_text number first in
    let rest = lines_text (suc number) lines in
    let last : ℕ → List ℕ = λ n. line_text n line in
    let n = length lines + suc number in
    let k : n ≡ suc (length lines) + number = omega arith in
    ap (λ (bytes : List ℕ). a ++ 10 ∷ bytes) (lines_text-push (suc number) lines line)
    ∙ sym (append_assoc a (10 ∷ (rest ++ last n)) (10 ∷ []))
    ∙ ap (λ (bytes : List ℕ). bytes ++ 10 ∷ []) (sym (append_assoc a (10 ∷ rest) (last n)))
    ∙ ap (λ (m : ℕ). ((a ++ 10 ∷ rest) ++ last m) ++ 10 ∷ []) k

lines_length : (events : List Event) (w : World) → length (lines_of events w) ≡ length events
lines_length [] w = refl
lines_length (event ∷ events) w = ap suc (lines_length events (at_event event w).world)

-- the first i of the events were read and applied, and their lines written
pub record Underway (version : Version) (count i : ℕ) (start place : Place) (old now : RelayCore)
    (out : List ℕ) : Type 0 where
  pub events : List Event
  pub read : EventsRead version count i events place (events_at version count start)
  pub counted : i ≡ length events
  pub within : i ≤ count
  pub world : (w : World) → StandsFor old w → StandsFor now (world_after events w)
  pub wrote : (w : World) → StandsFor old w → out ≡ lines_text 1 (lines_of events w)

-- no event was
pub none_played : (version : Version) (count : ℕ) (start : Place) (core : RelayCore)
    → Underway version count 0 start start core core []
unfolding lines_text
none_played version count start core =
    record {
      events = [];
      read = none_read version count start;
      counted = refl;
      within = omega arith;
      world = λ w stands. stands;
      wrote = λ w stands. refl;
    }

-- one more event was
pub event_played : (version : Version) (count i number : ℕ) (start place after : Place)
    (old now next : RelayCore) (out out' : List ℕ) → i < count → number ≡ i + 1
    → PlaysEvent version number place after now next out out'
    → Underway version count i start place old now out
    → Underway version count (i + 1) start after old next out'
event_played version count i number start place after old now next out out' lt numbered one so_far =
    let front = so_far.events in
    let event = one.event in
    record {
      events = front ++ event ∷ [];
      read = event_read version count i front (front ++ event ∷ []) place after event
          (events_at version count start) lt one.read refl so_far.read;
      counted = omega (arith, length-append front (event ∷ []), so_far.counted);
      within = omega arith;
      world = λ w stands. subst (λ (v : World). StandsFor next v)
          (sym (world_after-append front (event ∷ []) w))
          (one.world (world_after front w) (so_far.world w stands));
      wrote = λ w stands.
          let before = world_after front w in
          let line = line_at event before in
          let at : length (lines_of front w) + 1 ≡ number =
          omega (arith, lines_length front w, so_far.counted, numbered) in
          one.wrote before (so_far.world w stands)
          ∙ ap (λ (bytes : List ℕ). bytes ++ line_text number line ++ 10
          ∷ []) (so_far.wrote w stands)
          ∙ ap (λ (n : ℕ). lines_text 1 (lines_of front w) ++ line_text n line ++ 10 ∷ []) (sym at)
          ∙ sym (lines_text-push 1 (lines_of front w) line)
          ∙ ap (lines_text 1) (sym (lines_of-append front (event ∷ []) w));
    }

-- all events were
pub events_played : (version : Version) (count i : ℕ) (start place : Place) (old now : RelayCore)
    (out : List ℕ) → count ≤ i → Underway version count i start place old now out
    → PlaysEvents version count start place old out
events_played version count i start place old now out le so_far =
    record {
      events = so_far.events;
      read = events_read version count i so_far.events place (events_at version count start) le
          so_far.read;
      counted = omega (arith, so_far.counted, so_far.within);
      wrote = so_far.wrote;
    }
