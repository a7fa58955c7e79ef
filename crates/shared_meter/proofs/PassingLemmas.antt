-- The events that a worker has passed on, and those that can follow.
use Rattle.std.proofs.Common.{◌≡◌, inl, inr, List, [], ◌∷◌, ◌++◌, Some, None, append_assoc, append-nil, ap, sym, subst, ◌∙◌}
use Rattle.relay_events.specs.declared.event.Event.{Event}
use Rattle.shared_meter.specs.Handed.{MeterPort, Passes, PassesAll, own_events}
use Rattle.shared_meter.specs.Sources.{Includes, Offers}

-- Events were passed on, and with those that can follow now they are events that could follow at
-- first.
pub record Passing (CanFollow : List Event → Type 0) (before : List Event)
    (CanFollowNow : List Event → Type 0) (after : List Event) : Type 0 where
  pub events : List Event
  pub handed : after ≡ before ++ events
  pub go_on : (later : List Event) → CanFollowNow later → CanFollow (events ++ later)

pub passing_first : (CanFollow : List Event → Type 0) (before : List Event)
    → Passing CanFollow before CanFollow before
passing_first CanFollow before = record {
  events = [];
  handed = sym (append-nil before);
  go_on = λ later can. can;
}

-- one more event was offered, and passed on or left out
pub passing_on : (CanFollow Now Offered Next : List Event → Type 0) (event : Event)
    (before after after' : List Event)
    → Passing CanFollow before Now after → Offers Now (Some event) Offered → Includes Offered Next
    → Passes event after after' → Passing CanFollow before Next after'
passing_on CanFollow Now Offered Next event before after after' so_far offers heard (inl more) =
    record {
      events = so_far.events ++ event ∷ [];
      handed = more ∙ ap (λ (l : List Event). l ++ event ∷ []) so_far.handed
          ∙ append_assoc before so_far.events (event ∷ []);
      go_on = λ later can.
          subst CanFollow (sym (append_assoc so_far.events (event ∷ []) later))
          (so_far.go_on (event ∷ later) (offers.0 later (heard later can)));
    }
passing_on CanFollow Now Offered Next event before after after' so_far (offers, inl sure) heard
    (inr (unsure, same)) =
    absurd (unsure sure)
passing_on CanFollow Now Offered Next event before after after' so_far (offers, inr without) heard
    (inr (unsure, same)) =
    record {
      events = so_far.events;
      handed = same ∙ so_far.handed;
      go_on = λ later can. so_far.go_on later (without later (heard later can));
    }

-- no event is left
pub passing_end : (CanFollow Now Next : List Event → Type 0) (p q : MeterPort)
    → Passing CanFollow (own_events p) Now (own_events q) → Offers Now None Next
    → PassesAll CanFollow p q
passing_end CanFollow Now Next p q so_far offers = record {
  events = so_far.events;
  handed = so_far.handed;
  all = subst CanFollow (append-nil so_far.events) (so_far.go_on [] offers);
}
