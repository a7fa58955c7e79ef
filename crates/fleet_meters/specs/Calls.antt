-- Calls of a fleet, one after the other.
--     FleetCall       a call, with its result
--     CallsBy         the effect of a call
--     Calls           the effect of several calls
--     exchanges_at    the events of the connection with a key
--     told_at         the events of the meter at a place
--     StaysOpen       no call ends the connection with a key
--     AreGiven        each call gives an event to a meter
use Rattle.std.specs.Prelude.{◌≡◌, ℕ, ◌==◌, if◌then◌else◌, List, [], ◌∷◌, ◌++◌, None, Result, ⊤}
use Rattle.relay_events.specs.declared.event.Event.{Event}
use Rattle.relay_events.specs.declared.reply.Reply.{Reply}
use Rattle.slab.specs.Slab.{get}
use Rattle.relay_recorder.specs.Histories.{Exchange}
use Rattle.fleet_links.specs.Streams.{StreamState}
use Rattle.fleet_links.specs.declared.link.LinkEnd.TheVariants.{Memory}
use Rattle.fleet_links.specs.declared.link.Turn.{Turn}
use Rattle.fleet_links.specs.declared.link.Turn.TheVariants.{Over}
use Rattle.fleet_meters.specs.Fleets.{FleetState, AdmitsBy, Runs, Releases, Applies}
use Rattle.fleet_meters.specs.declared.place.Refusal.{Refusal}

-- A call of a fleet. `admitted`: a client of the meter with this number, with its stream and the
-- result; `ran`: the connection with this key, at the place of its meter, which applied these
-- events; `closed`: the connection with this key; `missed`: no connection has this key; `gave`: the
-- meter at this place was given this event, with this reply.
pub data FleetCall : Type 0 where
  admitted : ℕ → StreamState → Result ℕ Refusal → FleetCall
  ran : ℕ → ℕ → Turn → List Exchange → FleetCall
  closed : ℕ → FleetCall
  missed : ℕ → FleetCall
  gave : ℕ → Event → Reply → FleetCall

-- whether the connection with this key ran at this place, and its meter applied these events
pub record RunsAt (room : ℕ) (old : FleetState) (key place : ℕ) (turn : Turn)
    (told : List Exchange) (new : FleetState) : Type 0 where
  pub runs : Runs room old key turn new
  pub at : runs.before.place ≡ place
  pub applied : runs.turns.turns.turns.serves.went.told ≡ told

-- whether a call had this effect; `room` is the size of the buffer for frames
abbrev pub CallsBy : ℕ → FleetState → FleetCall → FleetState → Type 0
CallsBy room old (admitted number stream result) new = AdmitsBy old number stream result new
CallsBy room old (ran key place turn told) new = RunsAt room old key place turn told new
CallsBy room old (closed key) new = (stream : StreamState) × Releases old key stream new
CallsBy room old (missed key) new = (get old.clients key ≡ None) × (new ≡ old)
CallsBy room old (gave place event reply) new = Applies old place event reply new

-- whether several calls, in order, had this effect
abbrev pub Calls : ℕ → FleetState → List FleetCall → FleetState → Type 0
Calls room old [] new = new ≡ old
Calls room old (call ∷ calls) new = (between : FleetState) × CallsBy room old call between
    × Calls room between calls new

-- the events of a call of the connection with a key
abbrev pub told_in : ℕ → FleetCall → List Exchange
told_in key (ran k place turn told) = if k == key then told else []
told_in key (admitted number stream result) = []
told_in key (closed k) = []
told_in key (missed k) = []
told_in key (gave place event reply) = []

-- the events of the connection with a key
abbrev pub exchanges_at : ℕ → List FleetCall → List Exchange
exchanges_at key [] = []
exchanges_at key (call ∷ calls) = told_in key call ++ exchanges_at key calls

-- the events of a call at a place
abbrev pub told_there : ℕ → FleetCall → List Exchange
told_there place (ran key p turn told) = if p == place then told else []
told_there place (admitted number stream result) = []
told_there place (closed key) = []
told_there place (missed key) = []
told_there place (gave p event reply) = if p == place then (event, reply) ∷ [] else []

-- the events of the meter at a place
abbrev pub told_at : ℕ → List FleetCall → List Exchange
told_at place [] = []
told_at place (call ∷ calls) = told_there place call ++ told_at place calls

-- whether the connection with a key was closed, or memory ran out in its turn
abbrev pub IsEnd : ℕ → FleetCall → Type 0
IsEnd key (ran k place turn told) = (k ≡ key) × (turn ≡ Over Memory)
IsEnd key (closed k) = k ≡ key
IsEnd key (admitted number stream result) = ⊥
IsEnd key (missed k) = ⊥
IsEnd key (gave place event reply) = ⊥

-- whether no call ends the connection with this key
abbrev pub StaysOpen : ℕ → List FleetCall → Type 0
StaysOpen key [] = ⊤
StaysOpen key (call ∷ calls) = (¬ (IsEnd key call)) × StaysOpen key calls

-- whether each of these calls gives an event to a meter
abbrev pub AreGiven : List FleetCall → Type 0
AreGiven [] = ⊤
AreGiven (gave place event reply ∷ calls) = AreGiven calls
AreGiven (admitted number stream result ∷ calls) = ⊥
AreGiven (ran key place turn told ∷ calls) = ⊥
AreGiven (closed key ∷ calls) = ⊥
AreGiven (missed key ∷ calls) = ⊥

-- whether meters were given events, and nothing else was done
pub record GivesEvents (old new : FleetState) : Type 0 where
  pub calls : List FleetCall
  pub given : AreGiven calls
  pub leads : (room : ℕ) → Calls room old calls new
