-- Clients that are met.
use Rattle.std.proofs.Common.{◌≡◌, ℕ, ◌+◌, true, false, List, [], ◌∷◌, ◌++◌, Option, Some, None, Ok}
use Rattle.std.proofs.Common.{Err, refl, sym, ◌∙◌, ap, subst, length, length-append, append_assoc}
use Rattle.std.proofs.Common.{append-nil}
use Rattle.std.specs.Prelude.{map}
use Rattle.std.specs.List.{flat_map}
use Rattle.std.proofs.lemmas.Bool.{false≢true}
use Rattle.std.proofs.lemmas.Grind.{flat_map-append}
use Rattle.std.proofs.lemmas.List.{map-append}
use Rattle.fleet_links.specs.Addresses.{meter_of}
use Rattle.fleet_links.specs.Streams.{StreamState}
use Rattle.fleet_meters.specs.Fleets.{FleetState, AdmitsBy}
use Rattle.fleet_meters.specs.declared.place.Refusal.{Refusal}
use Rattle.fleet_meters.specs.Calls.{FleetCall, Calls}
use Rattle.fleet_meters.proofs.Steps.{calls_on}
use Rattle.meter_fleet.specs.Networks.{NetworkEvent, accepted, rejected, no_client, Tells}
use Rattle.meter_fleet.specs.Rounds.{Arrival, client, gone, arrival_event, arrival_calls}
use Rattle.meter_fleet.specs.Rounds.{AcceptsClients, AcceptsOne, AdmitsAt, max_accepted, frame_bytes}

-- ---- reports

pub tells_nothing : (a : Option (List NetworkEvent)) → Tells a [] a
tells_nothing None = tt
tells_nothing (Some log) = sym (append-nil log)

pub tells_on : (a b c : Option (List NetworkEvent)) (xs ys : List NetworkEvent) → Tells a xs b
    → Tells b ys c → Tells a (xs ++ ys) c
tells_on None b c xs ys first then_ = tt
tells_on (Some log) None c xs ys first then_ = absurd first
tells_on (Some log) (Some log') None xs ys first then_ = absurd then_
tells_on (Some log) (Some log') (Some log'') xs ys first then_ =
    then_ ∙ ap (λ (es : List NetworkEvent). es ++ ys) first ∙ append_assoc log xs ys

-- ---- one client

pub no_meter : (f : FleetState) (key : ℕ) (stream : StreamState) → AdmitsAt f key stream None f
no_meter f key stream = (None, refl)

pub admits_at : (f f' : FleetState) (key k number : ℕ) (stream : StreamState) (meter : Option ℕ)
    → Some number ≡ meter → k ≡ key → AdmitsBy f number stream (Ok k) f'
    → AdmitsAt f key stream meter f'
admits_at f f' key k number stream meter is same admits =
    subst (λ (m : Option ℕ). AdmitsAt f key stream m f') is
    (None, (f', subst (λ (x : ℕ). AdmitsBy f number stream (Ok x) f') same admits, refl))

pub refused_at : (f f' : FleetState) (key number : ℕ) (stream : StreamState) (meter : Option ℕ)
    (why : Refusal) → Some number ≡ meter → AdmitsBy f number stream (Err why) f'
    → AdmitsAt f key stream meter f'
refused_at f f' key number stream meter why is admits =
    subst (λ (m : Option ℕ). AdmitsAt f key stream m f') is (Some why, (f', admits, refl))

pub meets_client : (log log' : Option (List NetworkEvent)) (f f' : FleetState) (key vacant : ℕ)
    (address : List ℕ) (stream : StreamState) → key ≡ vacant
    → Tells log (accepted key address stream ∷ []) log'
    → AdmitsAt f vacant stream (meter_of address) f' → AcceptsOne log f true log' f'
meets_client log log' f f' key vacant address stream same tells admits = (
  client vacant address stream admits.0,
  subst (λ (k : ℕ). Tells log (accepted k address stream ∷ []) log') same tells,
  admits.1,
)

pub meets_gone : (log log' : Option (List NetworkEvent)) (f : FleetState)
    → Tells log (rejected ∷ []) log' → AcceptsOne log f true log' f
meets_gone log log' f tells = (gone, tells, refl)

-- ---- several clients

-- this number of clients was met
pub record MetSome (log : Option (List NetworkEvent)) (old : FleetState) (count : ℕ)
    (log' : Option (List NetworkEvent)) (new : FleetState) : Type 0 where
  pub arrivals : List Arrival
  pub told : Tells log (map arrival_event arrivals) log'
  pub counted : length arrivals ≡ count
  pub calls : Calls frame_bytes old (flat_map arrival_calls arrivals) new

pub met_none : (log : Option (List NetworkEvent)) (f : FleetState) → MetSome log f 0 log f
met_none log f = record { arrivals = []; told = tells_nothing log; counted = refl; calls = refl }

pub met_on : (log log' log'' : Option (List NetworkEvent)) (f f' f'' : FleetState) (count : ℕ)
    → MetSome log f count log' f' → AcceptsOne log' f' true log'' f''
    → MetSome log f (count + 1) log'' f''
met_on log log' log'' f f' f'' count first then_ = record {
  arrivals = first.arrivals ++ then_.0 ∷ [];
  told = subst (λ (es : List NetworkEvent). Tells log es log'')
      (sym (map-append arrival_event first.arrivals (then_.0 ∷ [])))
      (tells_on log log' log'' (map arrival_event first.arrivals) (arrival_event then_.0 ∷ [])
      first.told then_.1);
  counted = length-append first.arrivals (then_.0 ∷ [])
      ∙ ap (λ (n : ℕ). n + 1) first.counted;
  calls = subst (λ (cs : List FleetCall). Calls frame_bytes f cs f'')
      (sym (flat_map-append arrival_calls first.arrivals (then_.0 ∷ [])
      ∙ ap (λ (cs : List FleetCall). flat_map arrival_calls first.arrivals ++ cs)
      (append-nil (arrival_calls then_.0))))
      (calls_on frame_bytes (flat_map arrival_calls first.arrivals) (arrival_calls then_.0) f f' f''
      first.calls then_.2);
}

pub met_most : (log log' : Option (List NetworkEvent)) (f f' : FleetState)
    → MetSome log f max_accepted log' f' → AcceptsClients true log f true log' f'
met_most log log' f f' met = record {
  arrivals = met.arrivals;
  told = subst (λ (es : List NetworkEvent). Tells log es log')
      (sym (append-nil (map arrival_event met.arrivals))) met.told;
  met = λ _. met.counted;
  calls = met.calls;
}

pub met_last : (log log' log'' : Option (List NetworkEvent)) (f f' f'' : FleetState) (count : ℕ)
    → MetSome log f count log' f' → AcceptsOne log' f' false log'' f''
    → AcceptsClients true log f false log'' f''
met_last log log' log'' f f' f'' count met last = record {
  arrivals = met.arrivals;
  told = tells_on log log' log'' (map arrival_event met.arrivals) (no_client ∷ []) met.told last.0;
  met = λ e. absurd (false≢true e);
  calls = subst (λ (x : FleetState).
      Calls frame_bytes f (flat_map arrival_calls met.arrivals) x) (sym last.1) met.calls;
}

pub met_not : (log : Option (List NetworkEvent)) (f : FleetState)
    → AcceptsClients false log f false log f
met_not log f = record {
  arrivals = [];
  told = tells_nothing log;
  met = (refl, refl);
  calls = refl;
}
