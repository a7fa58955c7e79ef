-- A meter that resumes from a trace answers as the meter that wrote it.
use Rattle.std.proofs.Common.{◌≡◌, ℕ, List, [], ◌∷◌, ◌-◌, length, refl, ap, sym, ◌∙◌, subst}
use Rattle.std.proofs.lemmas.List.{take-append-drop}
use Rattle.circular_buffer.specs.Buffer.{keep_last}
use Rattle.relay_core.specs.Agreeing.{Agree, IsWorld}
use Rattle.relay_core.specs.Machine.{at_event}
use Rattle.relay_core.specs.Opening.{IsFitOpening, world_of_opening, opening_of}
use Rattle.relay_core.specs.Runs.{world_after}
use Rattle.relay_core.specs.World.{World}
use Rattle.relay_events.specs.declared.event.Event.{Event}
use Rattle.relay_events.specs.declared.reply.Reply.{Reply}
use Rattle.relay_core.specs.declared.opening.Opening.{Opening}
use Rattle.relay_core.proofs.AgreeingEvents.{event_alike}
use Rattle.relay_core.proofs.OpeningLemmas.{opening_agrees}
use Rattle.relay_core.proofs.RunLemmas.{world_after-append}
use Rattle.relay_recorder.specs.Histories.{Exchange, StandsForHistory, events_of, replies_from}
use Rattle.relay_recorder.specs.Recording.{Recording, all_but_last}
use Rattle.relay_recorder.specs.declared.trace.Trace.{Trace}
use Rattle.trace_player.specs.Resuming.{ContinuesRun, IsTraceOf, world_of}

-- worlds that agree give the same replies
replies_alike : (events : List Event) (v w : World) → IsWorld v → Agree v w → replies_from v events
    ≡ replies_from w events
replies_alike [] v w range agree = refl
replies_alike (event ∷ events) v w range agree =
    let go = event_alike event v w range agree in
    let a = at_event event v in
    let b = at_event event w in
    ap (λ (reply : Reply). reply ∷ replies_from a.world events) go.reply
    ∙ ap (λ (replies : List Reply). b.reply ∷ replies)
    (replies_alike events a.world b.world go.range go.world)

-- worlds that agree, the first of them in range
record AgreeInRange (v w : World) : Type 0 where
  range : IsWorld v
  agree : Agree v w

-- worlds that agree also agree after the same events
worlds_after : (events : List Event) (v w : World) → AgreeInRange v w
    → AgreeInRange (world_after events v) (world_after events w)
worlds_after [] v w alike = alike
worlds_after (event ∷ events) v w alike =
    let go = event_alike event v w alike.range alike.agree in
    worlds_after events (at_event event v).world (at_event event w).world
    (record { range = go.range; agree = go.world })

-- the events before the last n, followed by these, are all events
split_world : (n : ℕ) (events : List Event) (w : World)
    → world_after (keep_last n events) (world_after (all_but_last n events) w)
    ≡ world_after events w
split_world n events w =
    sym (world_after-append (all_but_last n events) (keep_last n events) w)
    ∙ ap (λ (es : List Event). world_after es w) (take-append-drop (length events - n) events)

-- the world after a trace's run agrees with the one after every history that its recorder
-- represents
trace_agrees : (r : Recording) (trace : Trace) (history : List Exchange) (origin : World)
    → IsFitOpening trace.opening → IsWorld (world_of_opening trace.opening)
    → IsTraceOf r trace → StandsForHistory r history origin
    → AgreeInRange (world_of trace) (world_after (events_of history) origin)
trace_agrees r trace history origin fit range traced stands =
    let n = r.capacity in
    let before = world_after (all_but_last n (events_of history)) origin in
    let fit_here : IsFitOpening (opening_of r.opening) = subst IsFitOpening traced.opening fit in
    let agree = opening_agrees r.opening before fit_here.import.runs fit_here.export.runs
    stands.opening in
    let first : AgreeInRange (world_of_opening trace.opening) before =
    record {
      range = range;
      agree = subst (λ (o : Opening). Agree (world_of_opening o) before)
          (sym traced.opening) agree;
    } in
    let after = worlds_after trace.events (world_of_opening trace.opening) before first in
    let same : world_after trace.events before ≡ world_after (events_of history) origin =
    ap (λ (es : List Event). world_after es before) (traced.events ∙ stands.kept)
    ∙ split_world n (events_of history) origin in
    subst (λ (w : World). AgreeInRange (world_of trace) w) same after

pub goes_on : (trace : Trace) → IsFitOpening trace.opening
    → IsWorld (world_of_opening trace.opening) → ContinuesRun trace (world_of trace)
goes_on trace fit range = λ r traced history origin stands further.
    let alike = trace_agrees r trace history origin fit range traced stands in
    replies_alike further (world_of trace) (world_after (events_of history) origin)
    alike.range alike.agree
