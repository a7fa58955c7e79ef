use Rattle.std.proofs.Common.{◌≡◌, ℕ, Bool, true, false, IsTrue, inr, arith, ◌+◌, ◌<◌, List, [], ◌∷◌, ◌++◌, length, take, get_or, refl, ap, ◌∙◌, sym, subst}
use Rattle.std.proofs.lemmas.List.{take_more}
use Rattle.std.proofs.lemmas.Option.{slice_get_read}
use Rattle.disconnect_control.specs.declared.state.ControlState.{ControlState}
use Rattle.relay_events.specs.declared.reply.Reply.{Reply}
use Rattle.disconnect_control.specs.declared.state.ControlState.TheVariants.{Connected}
use Rattle.disconnect_control.specs.Transitions.{is_state}
use Rattle.relay_events.specs.declared.event.Event.{Event}
use Rattle.relay_events.specs.declared.reply.Line.{Line}
use Rattle.relay_core.specs.declared.relay.RelayCore.{RelayCore}
use Rattle.relay_core.specs.Machine.{at_event, is_sure}
use Rattle.relay_core.specs.Runs.{line_of, line_at, world_after, lines_of, Runs, StopsEarly}
use Rattle.relay_core.specs.Stands.{StandsFor}
use Rattle.relay_core.specs.World.{World, Stepped}

-- the world after two lists of events is the world after the second, from the world after the first
pub world_after-append : (xs ys : List Event) (w : World) → world_after (xs ++ ys) w
    ≡ world_after ys (world_after xs w)
world_after-append [] ys w = refl
world_after-append (x ∷ xs) ys w = world_after-append xs ys (at_event x w).world

-- the lines of two lists of events, in sequence
pub lines_of-append : (xs ys : List Event) (w : World) → lines_of (xs ++ ys) w ≡ lines_of xs w
    ++ lines_of ys (world_after xs w)
lines_of-append [] ys w = refl
lines_of-append (x ∷ xs) ys w = ap (λ lines. line_at x w ∷ lines)
    (lines_of-append xs ys (at_event x w).world)

-- a run with one more event
pub ran_more : (old now next : RelayCore) (events : List Event) (event : Event) (lines : List Line)
    (line : Line)
    → Runs old now events lines
    → ((w : World) → StandsFor now w → StandsFor next (at_event event w).world)
    → ((w : World) → StandsFor now w → line ≡ line_at event w)
    → Runs old next (events ++ event ∷ []) (lines ++ line ∷ [])
ran_more old now next events event lines line ran goes answers = record {
  world = λ w stands. subst (λ (v : World). StandsFor next v)
      (sym (world_after-append events (event ∷ []) w))
      (goes (world_after events w) (ran.world w stands));
  answered = λ w stands.
      ap (λ done. done ++ line ∷ []) (ran.answered w stands)
      ∙ ap (λ one. lines_of events w ++ one ∷ [])
      (answers (world_after events w) (ran.world w stands))
      ∙ sym (lines_of-append events (event ∷ []) w);
}

-- a run over the first i events of a list, with the next event
pub ran_further : (old now next : RelayCore) (events : List Event) (i : ℕ) (event : Event)
    (lines : List Line) (line : Line)
    → i < length events
    → event ≡ get_or events i event
    → Runs old now (take i events) lines
    → ((w : World) → StandsFor now w → StandsFor next (at_event event w).world)
    → ((w : World) → StandsFor now w → line ≡ line_at event w)
    → Runs old next (take (i + 1) events) (lines ++ line ∷ [])
ran_further old now next events i event lines line below is ran goes answers =
    subst (λ (es : List Event). Runs old next es (lines ++ line ∷ []))
    (sym (take_more events i event below ∙ ap (λ e. take i events ++ e ∷ []) (sym is)))
    (ran_more old now next (take i events) event lines line ran goes answers)

-- a line equals the line of a step if its parts do
pub same_line : (reply : Reply) (state : ControlState) (output : Bool) (s : Stepped)
    → reply ≡ s.reply → state ≡ s.world.control.state → output
    ≡ is_state s.world.control.state Connected
    → record { reply = reply; state = state; output = output } ≡ line_of s
same_line reply state output s e1 e2 e3 =
    let made : Reply → ControlState → Bool → Line =
    λ r st o. record { reply = r; state = st; output = o } in
    ap (λ r. made r state output) e1 ∙ ap (λ st. made s.reply st output) e2
    ∙ ap (λ o. made s.reply s.world.control.state o) e3

-- a Boolean that can't be true is false
pub refuted : (b : Bool) → (IsTrue b → false ≡ true) → b ≡ false
refuted true not_so = sym (not_so refl)
refuted false not_so = refl

-- a run stops at an event that its core did not take
pub stops_at : (old now next : RelayCore) (events : List Event) (i : ℕ) (event : Event)
    (lines : List Line)
    → i < length events
    → event ≡ get_or events i event
    → Runs old now (take i events) lines
    → next ≡ now
    → (IsTrue (is_sure event) → false ≡ true)
    → StopsEarly old next events lines
stops_at old now next events i event lines below is ran same unsure = record {
  count = i;
  within = omega arith;
  ran = subst (λ (core : RelayCore). Runs old core (take i events) lines) (sym same) ran;
  cause = inr (
    event,
    slice_get_read events (length events) i event refl below is,
    refuted (is_sure event) unsure,
  );
}
