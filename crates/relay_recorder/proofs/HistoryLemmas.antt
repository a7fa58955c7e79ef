-- What one more event does to a recorder's history.
use Rattle.std.proofs.Common.{◌≡◌, ℕ, zero, suc, ◌-◌, ◌≤◌, List, [], ◌∷◌, ◌++◌, length, take, drop, map, Option, None, refl, ap, sym, ◌∙◌, subst}
use Rattle.std.specs.Prelude.{nat_lt, slice_get, if◌then◌else◌}
use Rattle.std.specs.Option.{option_to_list}
use Rattle.std.proofs.lemmas.List.{map_push}
use Rattle.circular_buffer.specs.Buffer.{Buffer, buffer, keep_last}
use Rattle.relay_events.specs.declared.event.Event.{Event}
use Rattle.relay_events.specs.declared.reply.Line.{Line}
use Rattle.relay_events.specs.declared.reply.Reply.{Reply}
use Rattle.relay_core.specs.declared.relay.RelayCore.{RelayCore}
use Rattle.relay_core.specs.Machine.{at_event}
use Rattle.relay_core.specs.Runs.{line_at, world_after, lines_of}
use Rattle.relay_core.specs.Stands.{StandsFor}
use Rattle.relay_core.specs.World.{World}
use Rattle.relay_core.proofs.RunLemmas.{world_after-append, lines_of-append}
use Rattle.relay_recorder.specs.Recording.{Recording, recording, all_but_last}
use Rattle.relay_recorder.specs.Histories.{Exchange, events_of, replies_of, replies_from, HasHistory, Continues}
use Rattle.relay_recorder.proofs.Pushed.{keep_last-more, all_but_last-more, pushed_out}

-- the replies of a run with one more event
replies_from-push : (events : List Event) (event : Event) (origin : World)
    → replies_from origin (events ++ event ∷ []) ≡ replies_from origin events
    ++ (at_event event (world_after events origin)).reply ∷ []
replies_from-push events event origin =
    let reply_in : Line → Reply = λ line. line.reply in
    ap (map reply_in) (lines_of-append events (event ∷ []) origin)
    ∙ map_push reply_in (lines_of events origin) (line_at event (world_after events origin))

-- If the core took the event, the reply is the machine's, the event was kept and the opening core
-- took what was pushed out, the recorder continues its histories.
pub continues : (old new : Recording) (event : Event) (reply : Reply)
    → ((w : World) → StandsFor old.core w → StandsFor new.core (at_event event w).world)
    → ((w : World) → StandsFor old.core w → reply ≡ (at_event event w).reply)
    → new.events ≡ keep_last old.capacity (old.events ++ event ∷ [])
    → ((w : World) → StandsFor old.opening w → StandsFor new.opening
    (world_after (all_but_last old.capacity (old.events ++ event ∷ [])) w))
    → new.capacity ≡ old.capacity
    → Continues old new event reply
continues old new event reply core_goes answers kept opening_goes same = record {
  histories = λ history origin stands.
      let told : Exchange = (event, reply) in
      let events = events_of history in
      let n = old.capacity in
      let before = world_after events origin in
      let first_world = world_after (all_but_last n events) origin in
      let all_events : events_of (history ++ told ∷ []) ≡ events ++ event ∷ [] =
      map_push (λ (t : Exchange). t.0) history told in
      let all_replies : replies_of (history ++ told ∷ []) ≡ replies_of history ++ reply ∷ [] =
      map_push (λ (t : Exchange). t.1) history told in
      let pushed : keep_last n events ++ event ∷ [] ≡ old.events ++ event ∷ [] =
      ap (λ es. es ++ event ∷ []) (sym stands.kept) in
      let opened : all_but_last n (events ++ event ∷ []) ≡ all_but_last n events
      ++ all_but_last n (old.events ++ event ∷ []) =
      all_but_last-more n events event ∙ ap (λ es. all_but_last n events
      ++ all_but_last n es) pushed in
      record {
        legal =
            all_replies
            ∙ ap (λ replies. replies ++ reply ∷ []) stands.legal
            ∙ ap (λ r. replies_from origin events ++ r ∷ []) (answers before stands.core)
            ∙ sym (replies_from-push events event origin)
            ∙ ap (replies_from origin) (sym all_events);
        core = subst (λ (es : List Event). StandsFor new.core (world_after es origin))
            (sym all_events)
            (subst (λ (w : World). StandsFor new.core w)
            (sym (world_after-append events (event ∷ []) origin))
            (core_goes before stands.core));
        kept =
            kept
            ∙ ap (keep_last n) (sym pushed)
            ∙ sym (keep_last-more n events event)
            ∙ (λ i. keep_last (sym same i) (sym all_events i));
        opening = subst (λ (es : List Event). StandsFor new.opening (world_after es origin))
            (sym opened ∙ (λ i. all_but_last (sym same i) (sym all_events i)))
            (subst (λ (w : World). StandsFor new.opening w)
            (sym (world_after-append (all_but_last n events)
            (all_but_last n (old.events ++ event ∷ [])) origin))
            (opening_goes first_world stands.opening));
      };
}

-- `continues`, for the parts of a recorder: the ring was given the event, and the opening core took
-- the event that was pushed out, if any
pub applied : (core opening next next_opening : RelayCore) (kept ring : Buffer Event)
    (event : Event) (reply : Reply) (out : Option Event)
    → ((w : World) → StandsFor core w → StandsFor next (at_event event w).world)
    → ((w : World) → StandsFor core w → reply ≡ (at_event event w).reply)
    → length kept.items ≤ kept.capacity
    → ring ≡ buffer (keep_last kept.capacity (kept.items ++ event ∷ [])) kept.capacity
    → out ≡ (if nat_lt (length kept.items) kept.capacity then None
    else slice_get (kept.items ++ event ∷ []) 0)
    → ((w : World) → StandsFor opening w → StandsFor next_opening
    (world_after (option_to_list out) w))
    → Continues (recording core opening kept) (recording next next_opening ring) event reply
applied core opening next next_opening kept ring event reply out core_goes answers within pushed
    is_out opening_goes =
    continues (recording core opening kept) (recording next next_opening ring) event reply core_goes
    answers
    (ap (λ (b : Buffer Event). b.items) pushed)
    (λ w stands. subst (λ (es : List Event). StandsFor next_opening (world_after es w))
    (sym (pushed_out kept.capacity kept.items event out within is_out))
    (opening_goes w stands))
    (ap (λ (b : Buffer Event). b.capacity) pushed)

-- no event is dropped from an empty list, and none remains in it
take_of_none : (n : ℕ) → take n (events_of []) ≡ []
take_of_none zero = refl
take_of_none (suc n) = refl

drop_of_none : (n : ℕ) → drop n (events_of []) ≡ []
drop_of_none zero = refl
drop_of_none (suc n) = refl

-- a recorder that has taken no event has the empty history
pub begins : (core opening : RelayCore) (ring : Buffer Event) (origin : World)
    → StandsFor core origin → opening ≡ core → ring.items ≡ []
    → HasHistory (recording core opening ring)
begins core opening ring origin stands same empty = record {
  history = [];
  origin = origin;
  stands = record {
    legal = refl;
    core = stands;
    kept = empty ∙ sym (drop_of_none (length (events_of []) - ring.capacity));
    opening = subst (λ (es : List Event). StandsFor opening (world_after es origin))
        (sym (take_of_none (length (events_of []) - ring.capacity)))
        (subst (λ (c : RelayCore). StandsFor c origin) (sym same) stands);
  };
}

-- a recorder that had a history and took an event has a history
pub goes_on : (old new : Recording) (event : Event) (reply : Reply) → Continues old new event reply
    → HasHistory old → HasHistory new
goes_on old new event reply continues has = record {
  history = has.history ++ (event, reply) ∷ [];
  origin = has.origin;
  stands = continues.histories has.history has.origin has.stands;
}
