-- The kept events run again, from a world that agrees with the one before them.
use Rattle.std.proofs.Common.{◌≡◌, ℕ, zero, suc, ◌+◌, ◌-◌, ◌≤◌, List, [], ◌∷◌, ◌++◌, length, map, drop, refl, ap, sym, ◌∙◌, arith}
use Rattle.std.proofs.lemmas.List.{length-drop, length-take-le, length-map, take-append-drop}
use lib.Seq.{drop-append-add}
use Rattle.circular_buffer.specs.Buffer.{keep_last}
use Rattle.disconnect_control.specs.Control.{Control}
use Rattle.disconnect_control.specs.Transitions.{is_state}
use Rattle.disconnect_control.specs.declared.state.ControlState.TheVariants.{Connected}
use Rattle.relay_events.specs.declared.event.Event.{Event}
use Rattle.relay_events.specs.declared.reply.Line.{Line}
use Rattle.relay_events.specs.declared.reply.Reply.{Reply}
use Rattle.relay_core.specs.Agreeing.{Agree, IsWorld, GoAlike}
use Rattle.relay_core.specs.Machine.{at_event}
use Rattle.relay_core.specs.Runs.{line_of, lines_of, world_after}
use Rattle.relay_core.specs.Stands.{StandsFor}
use Rattle.relay_core.specs.World.{World, Stepped}
use Rattle.relay_core.proofs.AgreeingEvents.{event_alike}
use Rattle.relay_core.proofs.RunLemmas.{lines_of-append}
use Rattle.relay_recorder.specs.Histories.{Exchange, StandsForHistory, events_of}
use Rattle.relay_recorder.specs.Recording.{Recording, all_but_last}
use Rattle.relay_recorder.specs.Replaying.{RunsAgain}

-- worlds that agree give equal lines
line_alike : (a b : Stepped) → GoAlike a b → line_of a ≡ line_of b
line_alike a b go =
    let make : Reply → Control → Line = λ reply control. record {
      reply = reply;
      state = control.state;
      output = is_state control.state Connected;
    } in
    ap (λ reply. make reply a.world.control) go.reply
    ∙ ap (λ (w : World). make b.reply w.control) (sym go.world.same)

pub lines_alike : (events : List Event) (v w : World) → IsWorld v → Agree v w → lines_of events v
    ≡ lines_of events w
lines_alike [] v w range agree = refl
lines_alike (event ∷ events) v w range agree =
    let go = event_alike event v w range agree in
    let a = at_event event v in
    let b = at_event event w in
    ap (λ (line : Line). line ∷ lines_of events a.world) (line_alike a b go)
    ∙ ap (λ (lines : List Line). line_of b ∷ lines)
    (lines_alike events a.world b.world go.range go.world)

lines_length : (events : List Event) (w : World) → length (lines_of events w) ≡ length events
lines_length [] w = refl
lines_length (event ∷ events) w = ap suc (lines_length events (at_event event w).world)

-- the lines of a run are those of the events before the last n, followed by those of the last n
last_lines : (n : ℕ) (events : List Event) (w : World)
    → drop (length events - length (keep_last n events)) (lines_of events w)
    ≡ lines_of (keep_last n events) (world_after (all_but_last n events) w)
last_lines n events w =
    let before = all_but_last n events in
    let kept = keep_last n events in
    let within : length events - n ≤ length events = omega arith in
    let count : length events - length kept ≡ length (lines_of before w) + 0 =
    omega (
      arith,
      length-drop (length events - n) events,
      length-take-le (length events - n) events within,
      lines_length before w,
    ) in
    let parts : lines_of events w ≡ lines_of before w ++ lines_of kept (world_after before w) =
    ap (λ (es : List Event). lines_of es w) (sym (take-append-drop (length events - n) events))
    ∙ lines_of-append before kept w in
    (λ i. drop (count i) (parts i)) ∙ drop-append-add (lines_of before w)
    (lines_of kept (world_after before w)) 0

drop_map : {X Y : Type 0} (f : X → Y) (n : ℕ) (xs : List X) → map f (drop n xs) ≡ drop n (map f xs)
drop_map f zero [] = refl
drop_map f zero (x ∷ xs) = refl
drop_map f (suc n) [] = refl
drop_map f (suc n) (x ∷ xs) = drop_map f n xs

-- The exported opening agrees with the world before the kept events, so they run from it as they
-- did in the history.
pub runs_again : (r : Recording) (history : List Exchange) (origin world : World)
    → StandsForHistory r history origin → IsWorld world
    → ((w : World) → StandsFor r.opening w → Agree world w) → RunsAgain r history origin world
runs_again r history origin world stands range agrees =
    let events = events_of history in
    let n = r.capacity in
    let before = world_after (all_but_last n events) origin in
    let alike : lines_of r.events world ≡ lines_of r.events before =
    lines_alike r.events world before range (agrees before stands.opening) in
    let kept : lines_of r.events before ≡ lines_of (keep_last n events) before =
    ap (λ (es : List Event). lines_of es before) stands.kept in
    let long : length events ≡ length history = length-map history (λ (told : Exchange). told.0) in
    let count : length events - length (keep_last n events) ≡ length history - length r.events =
    (λ i. long i - length (sym stands.kept i)) in
    let last = ap (λ (k : ℕ). drop k (lines_of events origin)) (sym count)
    ∙ last_lines n events origin in
    let lines = alike ∙ kept ∙ sym last in
    record {
      lines = lines;
      replies = ap (map (λ (line : Line). line.reply)) lines
          ∙ drop_map (λ (line : Line). line.reply) (length history - length r.events)
          (lines_of events origin)
          ∙ ap (drop (length history - length r.events)) (sym stands.legal);
    }
