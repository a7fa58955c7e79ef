-- The effect of a session on its port, which passes the session's events on.
use Rattle.std.proofs.Common.{◌≡◌, ◌⊎◌, ℕ, List, [], ◌∷◌, ◌++◌, Result, Ok, Err, IfOk, refl, sym}
use Rattle.std.proofs.Common.{ap, ◌∙◌, subst, inl, ⊎_elim}
use Rattle.std.proofs.lemmas.List.{append-nil, append_assoc}
use Rattle.shared_meter.specs.Calls.{IsLegal, events_and_replies}
use Rattle.session_io.specs.Meters.{RepliesTo, RefusesLast}
use Rattle.meter_server.specs.Ports.{PortSteps, entries, Enters}
use Rattle.shared_meter.specs.Handed.{MeterPort}
use Rattle.session_io.specs.Serving.{Plan, HasEffect, ServesSession, plan_of}
use Rattle.session_io.specs.Sides.{Sides}
use Rattle.session_io.specs.declared.fault.ServeFault.{ServeFault}
use Rattle.session_io.specs.declared.fault.ServeFault.TheVariants as fault
use Rattle.relay_events.specs.declared.event.Event.{Event}
use Rattle.relay_events.specs.declared.reply.Reply.{Reply}
use Rattle.relay_core.specs.declared.opening.Opening.{Opening}
use Rattle.relay_core.specs.Machine.{at_event}
use Rattle.relay_events.specs.Kinds.{Fits}
use Rattle.relay_core.specs.Opening.{world_of_opening}
use Rattle.relay_core.specs.World.{World}
use Rattle.relay_core.proofs.Replies.{reply_fits}
use Rattle.relay_recorder.specs.Histories.{events_of, replies_of, replies_from}
use Rattle.session_core.specs.declared.end.SessionEnd.{SessionEnd}
use Rattle.turn_lock.specs.Calls.{Called}
use Rattle.turn_lock.specs.History.{entry, calls_by}
use Rattle.turn_lock.specs.Shown.{IsSame}
use Rattle.turn_lock.specs.declared.call_fault.CallFault.{CallFault}
use Rattle.turn_lock.specs.declared.known.Known.{Known}
use Rattle.turn_lock.specs.declared.turned.Entry.{Entry}

-- the last reply of a run has the kind of its event
last_fits : (w : World) (calls : List (Entry Event Reply)) (by : List ℕ) (event : Event)
    (reply : Reply)
    → replies_of (events_and_replies (calls ++ entry by event reply ∷ []))
    ≡ replies_from w (events_of (events_and_replies (calls ++ entry by event reply ∷ [])))
    → Fits event reply
last_fits w [] by event reply legal =
    let same : reply ≡ (at_event event w).reply = cc in
    subst (Fits event) (sym same) (reply_fits event w)
last_fits w (call ∷ calls) by event reply legal =
    let after : World = (at_event call.event w).world in
    let rest : replies_of (events_and_replies (calls ++ entry by event reply ∷ []))
    ≡ replies_from after (events_of (events_and_replies (calls ++ entry by event reply ∷ []))) =
    cc in
    last_fits after calls by event reply rest

-- a reply to a call has the kind of its event
pub called_fits : (k : Known Event Reply Opening) (event : Event) (reply : Reply)
    (l : Known Event Reply Opening) → Called IsLegal k event reply l → Fits event reply
called_fits k event reply l called =
    let legal : IsLegal called.lawful.origin ((k.seen ++ called.seen.0)
    ++ entry k.number event reply ∷ []) = subst (IsLegal called.lawful.origin) called.seen.1
    called.lawful.legal_history in
    last_fits (world_of_opening called.lawful.origin) (k.seen ++ called.seen.0) k.number event reply
    legal

-- a reply that a port returned has the kind of its event
pub port_fits : (k : Known Event Reply Opening) (event : Event) (result : Result Reply CallFault)
    (l : Known Event Reply Opening)
    → IfOk result (λ (reply : Reply). Called IsLegal k event reply l) → IfOk result (Fits event)
port_fits k event (Ok reply) l called = called_fits k event reply l called
port_fits k event (Err fault) l called = tt

-- a relation that holds after replies and after a refusal holds between the first and the last
-- meter of a session
module _ {M : Type 0} (steps : M → Event → Result Reply CallFault → M → Type 0) (P : M → M → Type 0)
    (replied : (m : M) (events : List Event) (replies : List Reply) (n : M)
    → RepliesTo steps m events replies n → P m n)
    (refused : (m : M) (events : List Event) (replies : List Reply) (fault : CallFault) (n : M)
    → RefusesLast steps m events replies fault n → P m n) where
  pub effect_by : (plan : Plan) (seen : List ℕ) (before : Sides M)
      (result : Result SessionEnd ServeFault) (after : Sides M)
      → HasEffect steps plan seen before result after → P before.outlets.meter after.outlets.meter
  effect_by plan seen before (Ok end) after effect =
      replied before.outlets.meter _ effect.0.replies after.outlets.meter effect.0.replied
  effect_by plan seen before (Err fault.Read) after effect =
      replied before.outlets.meter _ effect.0.replies after.outlets.meter effect.0.replied
  effect_by plan seen before (Err fault.Write) after effect =
      replied before.outlets.meter effect.asked effect.replies after.outlets.meter effect.replied
  effect_by plan seen before (Err fault.Memory) after effect =
      ⊎_elim (replied before.outlets.meter effect.asked effect.replies after.outlets.meter)
      (refused before.outlets.meter effect.asked effect.replies _ after.outlets.meter)
      effect.replied
  effect_by plan seen before (Err fault.Exhausted) after effect = refused before.outlets.meter
      effect.asked effect.replies _ after.outlets.meter effect.refused
  effect_by plan seen before (Err fault.Listen) after effect = absurd effect
  effect_by plan seen before (Err fault.Journal) after effect = refused before.outlets.meter
      effect.asked effect.replies _ after.outlets.meter effect.refused

-- a relation that is reflexive, holds for each step and is transitive holds between the first and
-- the last meter of a session
module _ {M : Type 0} (steps : M → Event → Result Reply CallFault → M → Type 0) (P : M → M → Type 0)
    (here : (m : M) → P m m) (on : (a b c : M) → P a b → P b c → P a c)
    (by : (m : M) (event : Event) (result : Result Reply CallFault) (n : M)
    → steps m event result n → P m n) where
  pub replied_on : (m : M) (events : List Event) (replies : List Reply) (n : M)
      → RepliesTo steps m events replies n → P m n
  replied_on m [] [] n same = subst (P m) (sym same) (here m)
  replied_on m [] (reply ∷ replies) n never = absurd never
  replied_on m (event ∷ events) [] n never = absurd never
  replied_on m (event ∷ events) (reply ∷ replies) n (next, step, rest) =
      on m next n (by m event (Ok reply) next step) (replied_on next events replies n rest)

  refused_on : (m : M) (events : List Event) (replies : List Reply) (fault : CallFault) (n : M)
      → RefusesLast steps m events replies fault n → P m n
  refused_on m events replies fault n refused =
      on m refused.before n (replied_on m refused.taken replies refused.before refused.replied)
      (by refused.before refused.event (Err fault) n refused.refused)

  effect_on : (plan : Plan) (seen : List ℕ) (before : Sides M)
      (result : Result SessionEnd ServeFault) (after : Sides M)
      → HasEffect steps plan seen before result after → P before.outlets.meter after.outlets.meter
  effect_on = effect_by steps P replied_on refused_on

pub is_same : (p : MeterPort) → IsSame p p
is_same p = record {
  lock = refl;
  bound = refl;
  origin = refl;
  number = refl;
  splits = refl;
  joined = refl;
}

pub same_on : (p q s : MeterPort) → IsSame p q → IsSame q s → IsSame p s
same_on p q s a b = record {
  lock = b.lock ∙ a.lock;
  bound = b.bound ∙ a.bound;
  origin = b.origin ∙ a.origin;
  number = b.number ∙ a.number;
  splits = b.splits ∙ a.splits;
  joined = b.joined ∙ a.joined;
}

pub step_same : (p : MeterPort) (event : Event) (result : Result Reply CallFault) (q : MeterPort)
    → PortSteps p event result q → IsSame p q
step_same p event (Ok reply) q step =
    record {
      lock = step.lock;
      bound = step.bound;
      origin = step.calls.origin;
      number = step.calls.number;
      splits = step.calls.splits;
      joined = step.calls.joined;
    }
step_same p event (Err fault) q step =
    record {
      lock = step.lock;
      bound = step.bound;
      origin = step.calls.0.sees.origin;
      number = step.calls.0.sees.number;
      splits = step.calls.0.sees.splits;
      joined =
          step.calls.0.joined;
    }

-- ports are related if their equals are
pub between : (P : MeterPort → MeterPort → Type 0) (p m n q : MeterPort) → m ≡ p → q ≡ n
    → P m n → P p q
between P p m n q first last holds = subst (λ x. P x q) first (subst (P m) (sym last) holds)

-- in this history, the port's calls are extended by one call and then by further ones
pub enters_more : (p : MeterPort) (event : Event) (reply : Reply) (next : MeterPort)
    (events : List Event) (replies : List Reply) (history : List (Entry Event Reply))
    → next.known.number ≡ p.known.number → Enters p (event ∷ []) (reply ∷ []) next
    → calls_by next.known.number history ≡ calls_by next.known.number next.known.seen
    ++ entries next.known.number events replies
    → calls_by p.known.number history ≡ calls_by p.known.number p.known.seen
    ++ entries p.known.number (event ∷ events) (reply ∷ replies)
enters_more p event reply next events replies history number first rest =
    let by : List ℕ = p.known.number in
    let P : List ℕ → Type 0 = λ n. calls_by n history ≡ calls_by n next.known.seen
    ++ entries n events replies in
    let later : P by = subst P number rest in
    later
    ∙ (ap (λ (calls : List (Entry Event Reply)). calls ++ entries by events replies) first
    ∙ append_assoc (calls_by by p.known.seen) (entry by event reply
    ∷ []) (entries by events replies))

-- What the following needs of the steps of a meter that is a port: it remains the same port, a
-- reply adds the call to the port's calls, and a refusal adds no call or that of its event.
pub record ArePortSteps (steps : MeterPort → Event → Result Reply CallFault → MeterPort → Type 0)
    : Type 0 where
  pub same : (p : MeterPort) (event : Event) (result : Result Reply CallFault) (q : MeterPort)
      → steps p event result q → IsSame p q
  pub replied : (p : MeterPort) (event : Event) (reply : Reply) (q : MeterPort)
      → steps p event (Ok reply) q → Enters p (event ∷ []) (reply ∷ []) q
  pub refused : (p : MeterPort) (event : Event) (fault : CallFault) (q : MeterPort)
      → steps p event (Err fault) q
      → Enters p [] [] q ⊎ ((reply : Reply) × Enters p (event ∷ []) (reply ∷ []) q)

-- a refusal by a port adds no call
pub refusal_enters : (p : MeterPort) (event : Event) (fault : CallFault) (q : MeterPort)
    → PortSteps p event (Err fault) q → Enters p [] [] q
refusal_enters p event fault q step = step.calls.0.sees.own_calls p.known.number (inl refl)
    ∙ sym (append-nil (calls_by p.known.number p.known.seen))

pub port_steps : ArePortSteps PortSteps
port_steps = record {
  same = step_same;
  replied = λ p event reply q step. step.calls.own_calls;
  refused = λ p event fault q step. inl (refusal_enters p event fault q step);
}

module _ (steps : MeterPort → Event → Result Reply CallFault → MeterPort → Type 0)
    (is_port : ArePortSteps steps) where
  -- a port that served a session is the same port
  pub served_same : (password : List ℕ) (before : Sides MeterPort)
      (result : Result SessionEnd ServeFault) (after : Sides MeterPort)
      → ServesSession steps password before result after
      → IsSame before.outlets.meter after.outlets.meter
  served_same password before result after served =
      effect_on steps IsSame is_same same_on is_port.same (plan_of password) served.seen before
      result after served.effect

  -- the calls of a port are extended by the events that it passed on
  pub entered : (p : MeterPort) (events : List Event) (replies : List Reply) (q : MeterPort)
      → RepliesTo steps p events replies q → Enters p events replies q
  entered p [] [] q same = subst (λ (q : MeterPort). Enters p [] [] q) (sym same)
      (sym (append-nil (calls_by p.known.number p.known.seen)))
  entered p [] (reply ∷ replies) q never = absurd never
  entered p (event ∷ events) [] q never = absurd never
  entered p (event ∷ events) (reply ∷ replies) q (next, step, rest) =
      enters_more p event reply next events replies q.known.seen
      (is_port.same p event (Ok reply) next step).number (is_port.replied p event reply next step)
      (entered next events replies q rest)
