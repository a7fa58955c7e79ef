-- The calls of a session's port are the events of the session.
use Rattle.std.proofs.Common.{◌≡◌, ℕ, ◌<◌, ◌≤◌, List, [], ◌∷◌, ◌++◌, map, Result, Ok, Err, refl}
use Rattle.std.proofs.Common.{sym, ap, ◌∙◌, subst, inl, inr, ⊎_elim, arith}
use Rattle.std.proofs.lemmas.List.{append-nil, append_assoc, map-append}
use Rattle.relay_events.specs.declared.event.Event.{Event}
use Rattle.relay_events.specs.declared.reply.Reply.{Reply}
use Rattle.session_core.specs.Backwards.{Asks}
use Rattle.session_core.specs.declared.end.SessionEnd.{SessionEnd}
use Rattle.session_io.specs.Meters.{RepliesTo, RefusesLast}
use Rattle.session_io.specs.Serving.{HasEffect, ServesSession, plan_of}
use Rattle.session_io.specs.Sides.{Sides}
use Rattle.session_io.specs.declared.fault.ServeFault.{ServeFault}
use Rattle.session_io.specs.declared.fault.ServeFault.TheVariants as fault
use Rattle.turn_lock.specs.declared.call_fault.CallFault.{CallFault}
use Rattle.turn_lock.specs.declared.turned.Entry.{Entry}
use Rattle.shared_meter.specs.Calls.{Calls}
use Rattle.turn_lock.specs.History.{StartsWith, calls_by}
use Rattle.turn_lock.specs.Shown.{IsSame}
use Rattle.port_threads.specs.Ports.{PortContinues, AreJoined, AreServed, AreCallsOf, child}
use Rattle.std.proofs.Common.{Option}
use Rattle.meter_server.specs.Ports.{Enters, entries}
use Rattle.shared_meter.specs.Handed.{MeterPort}
use Rattle.meter_server.specs.ServingAll.{events_by}
use Rattle.meter_server.specs.Sessions.{AreAsked, AsksThrough, ServesClient}
use Rattle.port_threads.proofs.Going.{leaf_among}
use Rattle.turn_lock.proofs.Lists.{starts_trans}
use Rattle.meter_server.proofs.PortLemmas.{ArePortSteps, is_same, same_on, replied_on, entered}
use Rattle.meter_server.proofs.PortLemmas.{served_same}

abbrev event_of : Entry Event Reply → Event
event_of call = call.event

-- the port's calls are extended by those of these events
abbrev Adds : MeterPort → List Event → MeterPort → Type 0
Adds p events q = events_by p.known.number q ≡ events_by p.known.number p ++ events

-- the same port after further calls
adds_on : (p q r : MeterPort) (events later : List Event) → q.known.number ≡ p.known.number
    → Adds p events q → Adds q later r → Adds p (events ++ later) r
adds_on p q r events later number first second =
    let by : List ℕ = p.known.number in
    let N : List ℕ → Type 0 = λ n. events_by n r ≡ events_by n q ++ later in
    subst N number second ∙ (ap (λ (es : List Event). es ++ later) first
    ∙ append_assoc (events_by by p) events later)

-- the events of the port's new calls
enters_adds : (p : MeterPort) (events : List Event) (replies : List Reply) (q : MeterPort)
    → map event_of (entries p.known.number events replies) ≡ events → Enters p events replies q
    → Adds p events q
enters_adds p events replies q those enters =
    let by : List ℕ = p.known.number in
    ap (map event_of) enters
    ∙ map-append event_of (calls_by by p.known.seen) (entries by events replies)
    ∙ ap (λ (es : List Event). events_by by p ++ es) those

module _ (steps : MeterPort → Event → Result Reply CallFault → MeterPort → Type 0)
    (is_port : ArePortSteps steps) where
  -- the events of the port's new calls are those that were replied to
  entries_events : (by : List ℕ) (p : MeterPort) (events : List Event) (replies : List Reply)
      (q : MeterPort)
      → RepliesTo steps p events replies q → map event_of (entries by events replies) ≡ events
  entries_events by p [] [] q same = refl
  entries_events by p [] (reply ∷ replies) q never = absurd never
  entries_events by p (event ∷ events) [] q never = absurd never
  entries_events by p (event ∷ events) (reply ∷ replies) q (next, step, rest) =
      ap (λ (es : List Event). event ∷ es) (entries_events by next events replies q rest)

  replied_events : (p : MeterPort) (events : List Event) (replies : List Reply) (q : MeterPort)
      → RepliesTo steps p events replies q → Adds p events q
  replied_events p events replies q replied =
      enters_adds p events replies q (entries_events p.known.number p events replies q replied)
      (entered steps is_port p events replies q replied)

  by_replied : (password seen : List ℕ) (p : MeterPort) (events later : List Event)
      (replies : List Reply) (q : MeterPort)
      → Asks password seen ≡ events ++ later → RepliesTo steps p events replies q
      → AsksThrough password p q
  by_replied password seen p events later replies q all replied = record {
    asked = events;
    are = record { input = seen; later = later; all = all };
    entered = replied_events p events replies q replied;
  }

  -- the events of the port's new calls, of which the last was refused
  by_refused : (password seen : List ℕ) (p : MeterPort) (events later : List Event)
      (replies : List Reply) (refusal : CallFault) (q : MeterPort)
      → Asks password seen ≡ events ++ later → RefusesLast steps p events replies refusal q
      → AsksThrough password p q
  by_refused password seen p events later replies refusal q all r =
      let number = (replied_on steps IsSame is_same same_on is_port.same p r.taken replies r.before
      r.replied).number in
      let taken = replied_events p r.taken replies r.before r.replied in
      elim (is_port.refused r.before r.event refusal q r.refused) [
        | inl none ↦ record {
          asked = r.taken;
          are = record {
            input = seen;
            later = r.event ∷ later;
            all = all ∙ ap (λ (es : List Event). es ++ later) r.all
                ∙ append_assoc r.taken (r.event ∷ []) later;
          };
          entered = adds_on p r.before q r.taken [] number taken
              (enters_adds r.before [] [] q refl none)
              ∙ ap (λ (es : List Event). events_by p.known.number p ++ es) (append-nil r.taken);
        }
        | inr called ↦ record {
          asked = r.taken ++ r.event ∷ [];
          are = record {
            input = seen;
            later = later;
            all = all ∙ ap (λ (es : List Event). es ++ later) r.all;
          };
          entered = adds_on p r.before q r.taken (r.event ∷ []) number taken
              (enters_adds r.before (r.event ∷ []) (called.0 ∷ []) q refl called.1);
        }
      ]

  effect_asks : (password seen : List ℕ) (before : Sides MeterPort)
      (result : Result SessionEnd ServeFault) (after : Sides MeterPort)
      → HasEffect steps (plan_of password) seen before result after
      → AsksThrough password before.outlets.meter after.outlets.meter
  effect_asks password seen before (Ok end) after effect =
      by_replied password seen before.outlets.meter _ [] effect.0.replies after.outlets.meter
      (sym (append-nil (Asks password seen))) effect.0.replied
  effect_asks password seen before (Err fault.Read) after effect =
      by_replied password seen before.outlets.meter _ [] effect.0.replies after.outlets.meter
      (sym (append-nil (Asks password seen))) effect.0.replied
  effect_asks password seen before (Err fault.Write) after effect =
      by_replied password seen before.outlets.meter effect.asked effect.later effect.replies
      after.outlets.meter effect.all_asked effect.replied
  effect_asks password seen before (Err fault.Memory) after effect =
      ⊎_elim (by_replied password seen before.outlets.meter effect.asked effect.later
      effect.replies after.outlets.meter effect.all_asked)
      (by_refused password seen before.outlets.meter effect.asked effect.later effect.replies _
      after.outlets.meter effect.all_asked) effect.replied
  effect_asks password seen before (Err fault.Exhausted) after effect =
      by_refused password seen before.outlets.meter effect.asked effect.later effect.replies _
      after.outlets.meter effect.all_asked effect.refused
  effect_asks password seen before (Err fault.Listen) after effect = absurd effect
  effect_asks password seen before (Err fault.Journal) after effect =
      by_refused password seen before.outlets.meter effect.asked effect.later effect.replies _
      after.outlets.meter effect.all_asked effect.refused

  -- a port that served a session made the calls of the session
  pub served_asks : (password : List ℕ) (before : Sides MeterPort)
      (result : Result SessionEnd ServeFault) (after : Sides MeterPort)
      → ServesSession steps password before result after
      → AsksThrough password before.outlets.meter after.outlets.meter
  served_asks password before result after served =
      effect_asks password served.seen before result after served.effect

-- the calls of a new port that a client's session went through, or that was returned unused
module _ {I O : Type 0} (remaining : I → Option (List ℕ)) (contents : O → Option (List ℕ))
    (steps : MeterPort → Event → Result Reply CallFault → MeterPort → Type 0)
    (is_port : ArePortSteps steps) where
  pub client_same : (password : List ℕ) (p q : MeterPort)
      → ServesClient remaining contents steps password p q → IsSame p q
  client_same password p q session =
      served_same steps is_port password _ session.end _ session.serves

  pub client_asks : (password : List ℕ) (p q : MeterPort)
      → ServesClient remaining contents steps password p q → AsksThrough password p q
  client_asks password p q session =
      served_asks steps is_port password _ session.end _ session.serves

  pub client_asked : (password number : List ℕ) (history : Calls)
      → AreCallsOf (ServesClient remaining contents steps password) number history
      → AreAsked password (map event_of (calls_by number history))
  client_asked password number history c =
      let calls = calls_by number history in
      let A : List Event → Type 0 = λ es. AreAsked password es in
      let none : map event_of (calls_by number c.lent.known.seen) ≡ [] =
      ap (map event_of) c.fresh in
      elim c.returned [
        | inl unused ↦
            let empty : map event_of calls ≡ [] = ap (map event_of) c.calls_are
            ∙ ap (λ (x : MeterPort). events_by number x) unused ∙ none in
            subst A (sym empty) record { input = []; later = Asks password []; all = refl }
        | inr session ↦
            let asks = client_asks password c.lent c.back session in
            let N : List ℕ → Type 0 = λ n. events_by n c.back ≡ events_by n c.lent
            ++ asks.asked in
            let mine : events_by number c.back ≡ events_by number c.lent ++ asks.asked =
            subst N c.named asks.entered in
            let those : map event_of calls ≡ asks.asked = ap (map event_of) c.calls_are ∙ mine
            ∙ ap (λ (es : List Event). es ++ asks.asked) none in
            subst A (sym those) asks.are
      ]

-- facts about ports that did some work
module _ (Did : MeterPort → MeterPort → Type 0) where
  -- what a port did remains so if the history is extended without further calls of the port
  pub calls_later : (number : List ℕ) (before after : Calls) → StartsWith after before
      → calls_by number after ≡ calls_by number before → AreCallsOf Did number before
      → AreCallsOf Did number after
  calls_later number before after longer same c = record {
    lent = c.lent;
    back = c.back;
    named = c.named;
    fresh = c.fresh;
    returned = c.returned;
    seen = starts_trans after before c.back.known.seen longer c.seen;
    calls_are = same ∙ c.calls_are;
  }

  -- no port was split off
  pub none_served : (from : ℕ) (port : MeterPort) → port.known.splits ≤ from
      → AreServed Did from port
  none_served from port few i low high = absurd (omega (arith, few, low, high))

  -- once further ports were joined in
  pub served_on : (first from before : ℕ) (p q : MeterPort) → from ≡ before → first ≤ from
      → PortContinues p q → q.known.splits ≡ p.known.splits → AreJoined first p
      → AreServed Did from p → AreServed Did before q
  served_on first from before p q same early goes splits joined each i low high =
      let within : i < p.known.splits = omega (arith, high, splits) in
      let late : from ≤ i = omega (arith, low, same) in
      let number = child p.known.number i in
      let N : List ℕ → Type 0 = λ n. AreCallsOf Did (child n i) q.known.seen in
      let kept : calls_by number q.known.seen ≡ calls_by number p.known.seen =
      goes.own number (inr (leaf_among number p.known.joined
      (joined i (omega (arith, early, late)) within))) in
      subst N (sym goes.number)
      (calls_later number p.known.seen q.known.seen goes.seen kept (each i late within))

-- a port that did some work did other work that it implies
pub calls_as : (Did Other : MeterPort → MeterPort → Type 0)
    → ((p q : MeterPort) → Did p q → Other p q) → (number : List ℕ) (history : Calls)
    → AreCallsOf Did number history → AreCallsOf Other number history
calls_as Did Other so number history c = record {
  lent = c.lent;
  back = c.back;
  named = c.named;
  fresh = c.fresh;
  returned = elim c.returned [
    | inl unused ↦ inl unused
    | inr did ↦ inr (so c.lent c.back did)
  ];
  seen = c.seen;
  calls_are = c.calls_are;
}

pub served_as : (Did Other : MeterPort → MeterPort → Type 0)
    → ((p q : MeterPort) → Did p q → Other p q) → (from : ℕ) (port : MeterPort)
    → AreServed Did from port → AreServed Other from port
served_as Did Other so from port served i low high =
    calls_as Did Other so (child port.known.number i) port.known.seen (served i low high)
