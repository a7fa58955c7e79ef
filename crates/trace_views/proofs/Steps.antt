-- The lines that a view shows of a run, one event after the other.
use Rattle.std.proofs.Common.{◌≡◌, ℕ, suc, ◌+◌, ◌<◌, Bool, true, false, List, [], ◌∷◌, ◌++◌, length}
use Rattle.std.proofs.Common.{take, get_or, refl, sym, ap, ◌∙◌, subst, append_assoc}
use Rattle.std.proofs.Common.{append-nil, arith}
use Rattle.std.specs.Prelude.{cond, filter, flat_map, if◌then◌else◌}
use Rattle.std.proofs.lemmas.List.{take_more, length-take}
use Rattle.std.proofs.lemmas.Grind.{flat_map-append}
use Rattle.std.proofs.lemmas.List.Elements.{filter-append}
use Rattle.relay_core.proofs.RunLemmas.{world_after-append}
use Rattle.relay_core.specs.Machine.{at_event}
use Rattle.relay_core.specs.Runs.{world_after}
use Rattle.relay_core.specs.Stands.{StandsFor}
use Rattle.relay_core.specs.World.{World}
use Rattle.relay_core.specs.declared.relay.RelayCore.{RelayCore}
use Rattle.relay_events.specs.declared.event.Event.{Event}
use Rattle.trace_views.specs.Views.{Step, head_text, step_at, steps, is_step_shown, shown_text}
use Rattle.trace_views.specs.Views.{steps_text, text_of_step}
use Rattle.trace_views.specs.declared.view.TraceView.{TraceView}

-- the events of a run and one more
steps-append : (number : ℕ) (events : List Event) (event : Event) (w : World)
    → steps number (events ++ event ∷ []) w ≡ steps number events w
    ++ step_at (length events + number) event (world_after events w) ∷ []
steps-append number [] event w =
    let k : length {A = Event} [] + number ≡ number = omega arith in
    ap (λ (n : ℕ). step_at n event w ∷ []) (sym k)
steps-append number (first ∷ events) event w =
    let after = (at_event first w).world in
    let k : length events + suc number ≡ suc (length events) + number = omega arith in
    ap (λ (rest : List Step). step_at number first w ∷ rest) (steps-append (suc number) events event
    after)
    ∙ ap (λ (n : ℕ). step_at number first w ∷ steps (suc number) events after
    ++ step_at n event (world_after events after) ∷ []) k

-- the text of one event
one_shown : (view : TraceView) (step : Step) → steps_text view (step ∷ []) ≡ shown_text view step
one_shown view step = by (is_step_shown view step)
  where
    by : (is : Bool) → flat_map (text_of_step view) (cond is (step ∷ []) [])
        ≡ (if is then text_of_step view step else [])
    by true = append-nil (text_of_step view step)
    by false = refl

-- the text of the events of a run and one more
steps_text-push : (view : TraceView) (front : List Step) (step : Step)
    → steps_text view (front ++ step ∷ []) ≡ steps_text view front ++ shown_text view step
steps_text-push view front step =
    ap (flat_map (text_of_step view)) (filter-append (is_step_shown view) front (step ∷ []))
    ∙ flat_map-append (text_of_step view) (filter (is_step_shown view) front)
    (filter (is_step_shown view) (step ∷ []))
    ∙ ap (λ (bytes : List ℕ). steps_text view front ++ bytes) (one_shown view step)

-- the core applied these events, and the lines that the view shows of them were written
pub record HasShown (view : TraceView) (old now : RelayCore) (events : List Event) (out : List ℕ)
    : Type 0 where
  pub world : (w : World) → StandsFor old w → StandsFor now (world_after events w)
  pub wrote : (w : World) → StandsFor old w
      → out ≡ head_text view ++ steps_text view (steps 1 events w)

-- no event was applied
pub none_viewed : (view : TraceView) (core : RelayCore) (out : List ℕ) → out ≡ head_text view
    → HasShown view core core [] out
none_viewed view core out is = record {
  world = λ w stands. stands;
  wrote = λ w stands. is ∙ sym (append-nil (head_text view));
}

-- one more event was
pub event_viewed : (view : TraceView) (old now next : RelayCore) (events : List Event)
    (i number : ℕ) (event : Event) (out out' : List ℕ)
    → i < length events → event ≡ get_or events i event → number ≡ i + 1
    → ((w : World) → StandsFor now w → StandsFor next (at_event event w).world)
    → ((w : World) → StandsFor now w → out' ≡ out ++ shown_text view (step_at number event w))
    → HasShown view old now (take i events) out → HasShown view old next (take (i + 1) events) out'
event_viewed view old now next events i number event out out' below is numbered goes writes so_far =
    let front = take i events in
    let all : take (i + 1) events ≡ front ++ event ∷ [] =
    take_more events i event below ∙ ap (λ e. front ++ e ∷ []) (sym is) in
    let counted : length front + 1 ≡ number = omega (arith, length-take i events) in
    subst (λ (es : List Event). HasShown view old next es out') (sym all) (record {
      world = λ w stands. subst (λ (v : World). StandsFor next v)
          (sym (world_after-append front (event ∷ []) w))
          (goes (world_after front w) (so_far.world w stands));
      wrote = λ w stands.
          let before = world_after front w in
          let shown = shown_text view (step_at number event before) in
          writes before (so_far.world w stands)
          ∙ ap (λ (bytes : List ℕ). bytes ++ shown) (so_far.wrote w stands)
          ∙ append_assoc (head_text view) (steps_text view (steps 1 front w)) shown
          ∙ ap (λ (bytes : List ℕ). head_text view ++ bytes)
          (sym (steps_text-push view (steps 1 front w) (step_at number event before))
          ∙ ap (λ (n : ℕ). steps_text view (steps 1 front w ++ step_at n event before ∷ []))
          (sym counted)
          ∙ ap (steps_text view) (sym (steps-append 1 front event w)));
    })
