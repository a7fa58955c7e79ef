-- Rounds, one after the other.
use Rattle.std.proofs.Common.{◌≡◌, inl, inr, ℕ, Bool, ◌||◌, List, [], ◌∷◌, ◌++◌, Option, Result, Ok}
use Rattle.std.proofs.Common.{Err, refl, sym, ◌∙◌, ap, subst, append-nil}
use Rattle.std.specs.List.{flat_map}
use Rattle.fleet_meters.specs.Fleets.{FleetState, IsNewFleet}
use Rattle.fleet_meters.specs.declared.terms.FleetTerms.{FleetTerms}
use Rattle.fleet_meters.specs.Calls.{GivesEvents}
use Rattle.fleet_meters.proofs.Steps.{calls_on}
use Rattle.meter_fleet.specs.Networks.{NetworkEvent, polled, operated, Tells}
use Rattle.meter_fleet.specs.Rounds.{service_calls, arrival_calls, client_events, AcceptsClients}
use Rattle.meter_fleet.specs.Rounds.{departure_calls, ClosesKeys}
use Rattle.meter_fleet.specs.Rounds.{ServesKeys, ServesAll, Round, LoopState, may_wait, DoesWork}
use Rattle.meter_fleet.specs.Rounds.{DoesRound, FailsBy, RoundBy, DoesRounds, ServesUntil, ServesBy}
use Rattle.meter_fleet.specs.Rounds.{start_of, frame_bytes}
use Rattle.meter_fleet.specs.declared.serving.FleetFault.{FleetFault}
use Rattle.meter_fleet.specs.declared.serving.FleetFault.TheVariants.{Network, Memory}
use Rattle.meter_fleet.proofs.Meeting.{tells_on}

-- ---- one round

works : (old : LoopState) (keys idle : List ℕ) (has_clients has_more : Bool)
    (left done again : List ℕ) (log log' : Option (List NetworkEvent)) (f e g h : FleetState)
    → Tells old.log (polled (may_wait old) keys idle has_clients ∷ operated ∷ []) log
    → (closes : ClosesKeys old.fleet idle f) → (gives : GivesEvents f e)
    → (meets : AcceptsClients (old.has_clients || has_clients) log e has_more log' g)
    → done ++ left ≡ old.ready ++ keys → (serves : ServesKeys g done again h)
    → DoesWork old (record {
      keys = keys;
      idle = idle;
      has_clients = has_clients;
      departures = closes.departures;
      given = gives.calls;
      arrivals = meets.arrivals;
      has_more = has_more;
      services = serves.services;
    }) left log' h
works old keys idle has_clients has_more left done again log log' f e g h tells closes gives meets
    split serves = record {
      told = tells_on old.log log log'
          (polled (may_wait old) keys idle has_clients ∷ operated ∷ [])
          (client_events (old.has_clients || has_clients) meets.arrivals has_more) tells meets.told;
      lapsed = closes.keys_are;
      gives = gives.given;
      met = meets.met;
      served = ap (λ (ks : List ℕ). ks ++ left) serves.keys_are ∙ split;
      calls = calls_on frame_bytes
          (flat_map departure_calls closes.departures ++ gives.calls
          ++ flat_map arrival_calls meets.arrivals)
          (flat_map service_calls serves.services) old.fleet g h
          (calls_on frame_bytes (flat_map departure_calls closes.departures ++ gives.calls)
          (flat_map arrival_calls meets.arrivals) old.fleet e g
          (calls_on frame_bytes (flat_map departure_calls closes.departures) gives.calls old.fleet f
          e closes.calls (gives.leads frame_bytes)) meets.calls)
          serves.calls;
    }

round_by : (old new : LoopState) (keys idle all : List ℕ) (has_clients : Bool)
    (log : Option (List NetworkEvent)) (f e g : FleetState) (result : Result Unit FleetFault)
    → Tells old.log (polled (may_wait old) keys idle has_clients ∷ operated ∷ []) log
    → ClosesKeys old.fleet idle f → GivesEvents f e
    → AcceptsClients (old.has_clients || has_clients) log e new.has_clients new.log g
    → all ≡ old.ready ++ keys → ServesAll g all result new.ready new.fleet
    → RoundBy old result new
round_by old new keys idle all has_clients log f e g (Ok done) tells closes gives meets is
    serves = (
      record {
        keys = keys;
        idle = idle;
        has_clients = has_clients;
        departures = closes.departures;
        given = gives.calls;
        arrivals = meets.arrivals;
        has_more = new.has_clients;
        services = serves.services;
      },
      record {
        works = works old keys idle has_clients new.has_clients [] all new.ready log new.log f e g
            new.fleet tells closes gives meets (append-nil all ∙ is) serves;
        goes_on = serves.again_are;
        has_more = refl;
      },
    )
round_by old new keys idle all has_clients log f e g (Err (Network why)) tells closes gives meets
    is serves = absurd serves
round_by old new keys idle all has_clients log f e g (Err Memory) tells closes gives meets is
    serves = inr (
      record {
        keys = keys;
        idle = idle;
        has_clients = has_clients;
        departures = closes.departures;
        given = gives.calls;
        arrivals = meets.arrivals;
        has_more = new.has_clients;
        services = serves.serves.services;
      },
      serves.left,
      works old keys idle has_clients new.has_clients serves.left serves.done serves.again log
          new.log f e g new.fleet tells closes gives meets (serves.split ∙ is) serves.serves,
    )

-- the parts of a round
pub round_next : (log log' asked log'' : Option (List NetworkEvent)) (f g e h j : FleetState)
    (ready ready' again keys none idle idle' : List ℕ) (waits had has has_more had' : Bool)
    (result : Result Unit FleetFault)
    → waits ≡ may_wait (record { log = log; fleet = f; ready = ready; has_clients = had })
    → Tells log (polled waits keys idle has ∷ []) log' → none ≡ [] → idle' ≡ none ++ idle
    → ClosesKeys f idle' g → GivesEvents g e → Tells log' (operated ∷ []) asked
    → AcceptsClients (had || has) asked e has_more log'' h → had' ≡ has_more
    → ready' ≡ ready ++ keys → ServesAll h ready' result again j
    → RoundBy (record { log = log; fleet = f; ready = ready; has_clients = had }) result
    (record { log = log''; fleet = j; ready = again; has_clients = had' })
round_next log log' asked log'' f g e h j ready ready' again keys none idle idle' waits had has
    has_more had' result is tells empty lapsed closes gives asks meets same grown serves =
    round_by (record { log = log; fleet = f; ready = ready; has_clients = had })
    (record { log = log''; fleet = j; ready = again; has_clients = had' }) keys idle ready' has
    asked g e h result
    (subst (λ (w : Bool). Tells log (polled w keys idle has ∷ operated ∷ []) asked) is
    (tells_on log log' asked (polled waits keys idle has ∷ []) (operated ∷ []) tells asks))
    (subst (λ (ks : List ℕ). ClosesKeys f ks g)
    (lapsed ∙ ap (λ (ks : List ℕ). ks ++ idle) empty) closes) gives
    (subst (λ (m : Bool). AcceptsClients (had || has) asked e m log'' h) (sym same) meets) grown
    serves

-- ---- several rounds

-- these rounds were done
pub record DoneRounds (old new : LoopState) : Type 0 where
  pub rounds : List Round
  pub does : DoesRounds old rounds new

pub done_none : (s : LoopState) → DoneRounds s s
done_none s = record { rounds = []; does = refl }

rounds_on : (a b c : LoopState) (rounds : List Round) (round : Round) → DoesRounds a rounds b
    → DoesRound b round c → DoesRounds a (rounds ++ round ∷ []) c
rounds_on a b c [] round first then_ =
    (c, subst (λ (x : LoopState). DoesRound x round c) first then_, refl)
rounds_on a b c (r ∷ rounds) round first then_ = (
  first.0,
  first.1,
  rounds_on first.0 b c rounds round first.2 then_,
)

pub done_on : (a b c : LoopState) → DoneRounds a b → RoundBy b (Ok tt) c → DoneRounds a c
done_on a b c first then_ = record {
  rounds = first.rounds ++ then_.0 ∷ [];
  does = rounds_on a b c first.rounds then_.0 first.does then_.1;
}

pub until : (log log' : Option (List NetworkEvent)) (f f' : FleetState) (last : LoopState)
    (fault : FleetFault) → DoneRounds (start_of log f) last → FailsBy last fault log' f'
    → ServesUntil log f fault log' f'
until log log' f f' last fault done fails = record {
  rounds = done.rounds;
  last = last;
  does = done.does;
  fails = fails;
}

pub no_buffers : (log : Option (List NetworkEvent)) (f : FleetState)
    → ServesUntil log f Memory log f
no_buffers log f = record {
  rounds = [];
  last = start_of log f;
  does = refl;
  fails = inl (refl, refl);
}

pub serves_by : (terms : FleetTerms) (count : ℕ) (log log' : Option (List NetworkEvent))
    (first final : FleetState) (fault : FleetFault) → IsNewFleet terms count first
    → ServesUntil log first fault log' final → ServesBy terms count log fault log'
serves_by terms count log log' first final (Network why) new serves =
    record { first = first; final = final; new = new; serves = serves }
serves_by terms count log log' first final Memory new serves =
    inr (record { first = first; final = final; new = new; serves = serves })
