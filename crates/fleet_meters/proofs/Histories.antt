-- The history of each meter of a fleet.
use Rattle.std.proofs.Common.{◌≡◌, ℕ, ◌==◌, if◌then◌else◌, List, [], ◌∷◌, ◌++◌, Option, Some, None}
use Rattle.std.proofs.Common.{Ok, Err, refl, sym, ◌∙◌, ap, subst, append_assoc, append-nil}
use Rattle.std.proofs.lemmas.Option.{same_Some, none-some}
use Rattle.relay_recorder.specs.Histories.{Exchange, StandsForHistory}
use Rattle.relay_recorder.specs.Recording.{Recording}
use Rattle.relay_events.specs.declared.event.Event.{Event}
use Rattle.relay_events.specs.declared.reply.Reply.{Reply}
use Rattle.embedded_meter.specs.MeterStates.{MeterState, Takes}
use Rattle.fleet_meters.specs.Fleets.{FleetState, MetersStay}
use Rattle.fleet_meters.specs.Places.{Makes, meter_in}
use Rattle.fleet_meters.specs.Terms.{terms_at}
use Rattle.fleet_meters.specs.declared.terms.MeterTerms.{MeterTerms}
use Rattle.fleet_meters.specs.Calls.{FleetCall, admitted, ran, closed, missed, gave, CallsBy, Calls}
use Rattle.fleet_meters.specs.Calls.{told_there, told_at}
use Rattle.fleet_meters.specs.Law.{HaveTheirHistories}
use Rattle.fleet_meters.specs.Lives.{ExtendsHistory}
use Rattle.fleet_meters.proofs.Steps.{by_number, refused}

-- ---- one meter

pub extends_nothing : (m m' : MeterState) → m'.recorder ≡ m.recorder → ExtendsHistory [] m m'
extends_nothing m m' same = record {
  histories = λ history origin stands.
      subst (λ (h : List Exchange). StandsForHistory m'.recorder h origin)
      (sym (append-nil history))
      (subst (λ (r : Recording). StandsForHistory r history origin) (sym same) stands);
  capacity = ap (λ (r : Recording). r.capacity) same;
}

pub extends_more : (m m' m'' : MeterState) (told told' : List Exchange) → ExtendsHistory told m m'
    → ExtendsHistory told' m' m'' → ExtendsHistory (told ++ told') m m''
extends_more m m' m'' told told' first then_ = record {
  histories = λ history origin stands.
      subst (λ (h : List Exchange). StandsForHistory m''.recorder h origin)
      (append_assoc history told told')
      (then_.histories (history ++ told) origin (first.histories history origin stands));
  capacity = then_.capacity ∙ first.capacity;
}

-- the meter was given an event
pub extends_event : (m m' : MeterState) (event : Event) (reply : Reply) → Takes m event reply m'
    → ExtendsHistory ((event, reply) ∷ []) m m'
extends_event m m' event reply takes = record {
  histories = λ history origin stands. takes.continues.histories history origin stands;
  capacity = takes.capacity;
}

-- ---- the meter at a place

-- the meter at a place is there after a call, and its history is extended
pub record ExtendsAt (told : List Exchange) (m : MeterState) (new : FleetState) (place : ℕ) : Type 0
  where
    pub meter : MeterState
    pub is : meter_in new.places place ≡ Some meter
    pub goes : ExtendsHistory told m meter

stays_at : (m : MeterState) (new : FleetState) (place : ℕ) → meter_in new.places place ≡ Some m
    → ExtendsAt [] m new place
stays_at m new place is = record { meter = m; is = is; goes = extends_nothing m m refl }

-- the meter at one place did something, and the others did not change
changes_at : (told : List Exchange) (old new : FleetState) (at place : ℕ) (m b a : MeterState)
    → MetersStay old at new → meter_in old.places place ≡ Some m
    → meter_in old.places at ≡ Some b → meter_in new.places at ≡ Some a → ExtendsHistory told b a
    → ExtendsAt (if at == place then told else []) m new place
changes_at told old new at place m b a stay is was now goes = by_number at place
    (λ e e'. record {
      meter = a;
      is = ap (λ (p : ℕ). meter_in new.places p) (sym e) ∙ now;
      goes = subst (λ (t : List Exchange). ExtendsHistory t m a)
          (sym (ap (λ (b : _). if b then told else []) e'))
          (subst (λ (q : MeterState). ExtendsHistory told q a)
          (same_Some b m (sym was ∙ ap (λ (p : ℕ). meter_in old.places p) e ∙ is)) goes);
    })
    (λ far e'. subst (λ (t : List Exchange). ExtendsAt t m new place)
    (sym (ap (λ (b : _). if b then told else []) e'))
    (stays_at m new place (stay.places place (λ e. far (sym e)) ∙ is)))

-- the meter at one place opened or closed a session
quiet_at : (old new : FleetState) (at place : ℕ) (m : MeterState)
    → MetersStay old at new → meter_in old.places place ≡ Some m
    → ((e : at ≡ place) → ExtendsAt [] m new place) → ExtendsAt [] m new place
quiet_at old new at place m stay is here = by_number at place
    (λ e _. here e)
    (λ far _. stays_at m new place (stay.places place (λ e. far (sym e)) ∙ is))

-- the meter whose session is opened is the one that is there
pub made_there : (terms : MeterTerms) (o : Option MeterState) (m b : MeterState) → o ≡ Some m
    → Makes terms o b → b ≡ m
made_there terms None m b is makes = absurd (none-some m is)
made_there terms (Some n) m b is makes = makes ∙ same_Some n m is

pub history_call : (room place : ℕ) (call : FleetCall) (old new : FleetState) (m : MeterState)
    → CallsBy room old call new → meter_in old.places place ≡ Some m
    → ExtendsAt (told_there place call) m new place
history_call room place (admitted number stream (Ok key)) old new m by is =
    let seats = by.2.seats in
    quiet_at old new by.0 place m by.2.stay is (λ e. record {
      meter = seats.after;
      is = ap (λ (p : ℕ). meter_in new.places p) (sym e) ∙ seats.is;
      goes = extends_nothing m seats.after
          (seats.opens.recorder
          ∙ ap (λ (q : MeterState). q.recorder)
          (made_there (terms_at old.terms by.0) (meter_in old.places by.0) m seats.before
          (ap (λ (p : ℕ). meter_in old.places p) e ∙ is) seats.makes));
    })
history_call room place (admitted number stream (Err why)) old new m by is =
    let same = refused old new number stream why by in
    stays_at m new place
    (ap (λ (ps : List (Option MeterState)). meter_in ps place) same.places ∙ is)
history_call room place (ran key at turn told) old new m by is =
    let runs = by.runs in
    let went = runs.turns.turns.turns.serves.went in
    subst (λ (p : ℕ). ExtendsAt (if p == place then told else []) m new place) by.at
    (changes_at told old new runs.before.place place m runs.turns.before runs.turns.after
    runs.stay is runs.turns.was runs.turns.is
    (subst (λ (t : List Exchange). ExtendsHistory t runs.turns.before runs.turns.after) by.applied
    (record { histories = went.histories; capacity = went.capacity })))
history_call room place (closed key) old new m by is =
    let releases = by.1 in
    let frees = releases.frees in
    quiet_at old new releases.client.place place m releases.stay is (λ e. record {
      meter = frees.after;
      is = ap (λ (p : ℕ). meter_in new.places p) (sym e) ∙ frees.is;
      goes = extends_nothing m frees.after
          (frees.closes.recorder
          ∙ ap (λ (q : MeterState). q.recorder)
          (same_Some frees.before m (sym frees.was
          ∙ ap (λ (p : ℕ). meter_in old.places p) e ∙ is)));
    })
history_call room place (missed key) old new m by is =
    stays_at m new place (ap (λ (f : FleetState). meter_in f.places place) by.1 ∙ is)
history_call room place (gave at event reply) old new m by is = by_number at place
    (λ e e'. record {
      meter = by.gives.after;
      is = ap (λ (p : ℕ). meter_in new.places p) (sym e) ∙ by.gives.is;
      goes = subst (λ (t : List Exchange). ExtendsHistory t m by.gives.after)
          (sym (ap (λ (b : _). if b then (event, reply) ∷ [] else []) e'))
          (subst (λ (q : MeterState). ExtendsHistory ((event, reply) ∷ []) q by.gives.after)
          (made_there (terms_at old.terms at) (meter_in old.places at) m by.gives.before
          (ap (λ (p : ℕ). meter_in old.places p) e ∙ is) by.gives.makes)
          (extends_event by.gives.before by.gives.after event reply by.gives.takes));
    })
    (λ far e'. subst (λ (t : List Exchange). ExtendsAt t m new place)
    (sym (ap (λ (b : _). if b then (event, reply) ∷ [] else []) e'))
    (stays_at m new place (by.stay.places place (λ e. far (sym e)) ∙ is)))

history_calls : (room place : ℕ) (calls : List FleetCall) (old new : FleetState)
    (m : MeterState) → Calls room old calls new → meter_in old.places place ≡ Some m
    → ExtendsAt (told_at place calls) m new place
history_calls room place [] old new m by is =
    stays_at m new place (ap (λ (f : FleetState). meter_in f.places place) by ∙ is)
history_calls room place (call ∷ calls) old new m by is =
    let first = history_call room place call old by.0 m by.1 is in
    let rest = history_calls room place calls by.0 new first.meter by.2 first.is in
    record {
      meter = rest.meter;
      is = rest.is;
      goes = extends_more m first.meter rest.meter (told_there place call) (told_at place calls)
          first.goes rest.goes;
    }

pub have_histories : HaveTheirHistories
have_histories room place calls old new m by is =
    let there = history_calls room place calls old new m by is in
    (there.meter, there.is, there.goes)
