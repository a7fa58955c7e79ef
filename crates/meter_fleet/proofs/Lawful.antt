-- The calls of the rounds of a loop.
use Rattle.std.proofs.Common.{◌≡◌, inl, inr, ◌⊎◌, ℕ, List, [], ◌∷◌, ◌++◌, Option, Some, None}
use Rattle.std.proofs.Common.{sym, ◌∙◌, ap, subst, append_assoc}
use Rattle.std.specs.List.{flat_map}
use Rattle.std.proofs.lemmas.Option.{none-some}
use Rattle.slab.specs.Slab.{get}
use Rattle.fleet_links.specs.Addresses.{meter_of}
use Rattle.fleet_links.specs.Streams.{StreamState}
use Rattle.fleet_links.specs.declared.link.Turn.TheVariants.{Waits, Again, Over}
use Rattle.fleet_meters.specs.Clients.{ClientState}
use Rattle.fleet_meters.specs.Fleets.{FleetState}
use Rattle.fleet_meters.specs.declared.place.Refusal.{Refusal}
use Rattle.fleet_meters.specs.declared.terms.FleetTerms.{FleetTerms}
use Rattle.fleet_meters.specs.Calls.{FleetCall, admitted, ran, closed, missed, gave, Calls}
use Rattle.fleet_meters.specs.Calls.{AreGiven}
use Rattle.fleet_meters.specs.Moments.{NoneOf, RunsOut}
use Rattle.fleet_meters.proofs.CallLists.{none_both, waits_not_over, again_not_over}
use Rattle.fleet_meters.proofs.Moments.{WholeBut, whole_new, whole_call, whole_again, whole_calls}
use Rattle.fleet_meters.proofs.Moments.{are_whole, holds_always}
use Rattle.fleet_meters.proofs.Steps.{calls_on, calls_split}
use Rattle.meter_fleet.specs.Networks.{NetworkEvent}
use Rattle.meter_fleet.specs.Rounds.{Departure, left, vacant, departure_calls, Arrival, client, gone}
use Rattle.meter_fleet.specs.Rounds.{admission, arrival_calls, Service, absent, idle, busy, over}
use Rattle.meter_fleet.specs.Rounds.{service_calls, Round, round_calls, LoopState, DoesWork}
use Rattle.meter_fleet.specs.Rounds.{DoesRounds, FailsBy, frame_bytes, start_of}
use Rattle.meter_fleet.specs.Runs.{failing_calls, RunsLawfully, LosesNothing}
use Rattle.meter_fleet.specs.declared.serving.FleetFault.{FleetFault}
use Rattle.meter_fleet.specs.declared.serving.FleetFault.TheVariants.{Network, Memory}

-- ---- all calls

rounds_lead : (old new : LoopState) (rounds : List Round) → DoesRounds old rounds new
    → Calls frame_bytes old.fleet (flat_map round_calls rounds) new.fleet
rounds_lead old new [] does = ap (λ (s : LoopState). s.fleet) does
rounds_lead old new (round ∷ rounds) does =
    calls_on frame_bytes (round_calls round) (flat_map round_calls rounds) old.fleet does.0.fleet
    new.fleet does.1.works.calls (rounds_lead does.0 new rounds does.2)

failing_leads : (old : LoopState) (fault : FleetFault) (log : Option (List NetworkEvent))
    (fleet : FleetState) → (fails : FailsBy old fault log fleet)
    → Calls frame_bytes old.fleet (failing_calls old fault log fleet fails) fleet
failing_leads old (Network why) log fleet fails = fails.1
failing_leads old Memory log fleet (inl unchanged) = unchanged.1
failing_leads old Memory log fleet (inr works) = works.2.calls

pub runs_lawfully : RunsLawfully
runs_lawfully terms count fault log log' run =
    let serves = run.serves in
    let failing = failing_calls serves.last fault log' run.final serves.fails in
    let leads = calls_on frame_bytes (flat_map round_calls serves.rounds) failing run.first
    serves.last.fleet run.final
    (rounds_lead (start_of log run.first) serves.last serves.rounds serves.does)
    (failing_leads serves.last fault log' run.final serves.fails) in
    record {
      leads = leads;
      moments = λ done rest split.
          let parts = calls_split frame_bytes done rest run.first run.final
          (subst (λ (cs : List FleetCall). Calls frame_bytes run.first cs run.final) (sym split)
          leads) in (
            parts.0,
            parts.1,
            parts.2,
            holds_always terms frame_bytes count done run.first parts.0 run.new parts.1,
          );
    }

-- ---- memory runs out in no call

departures_quiet : (key : ℕ) (departures : List Departure)
    → NoneOf (RunsOut key) (flat_map departure_calls departures)
departures_quiet key [] = tt
departures_quiet key (left k ∷ departures) = (λ never. never, departures_quiet key departures)
departures_quiet key (vacant k ∷ departures) = (λ never. never, departures_quiet key departures)

given_quiet : (key : ℕ) (calls : List FleetCall) → AreGiven calls → NoneOf (RunsOut key) calls
given_quiet key [] given = tt
given_quiet key (gave place event reply ∷ calls) given =
    (λ never. never, given_quiet key calls given)
given_quiet key (admitted number stream result ∷ calls) given = absurd given
given_quiet key (ran k place turn told ∷ calls) given = absurd given
given_quiet key (closed k ∷ calls) given = absurd given
given_quiet key (missed k ∷ calls) given = absurd given

admission_quiet : (key k : ℕ) (stream : StreamState) (refusal : Option Refusal)
    (number : Option ℕ) → NoneOf (RunsOut key) (admission k stream refusal number)
admission_quiet key k stream refusal None = tt
admission_quiet key k stream None (Some number) = (λ never. never, tt)
admission_quiet key k stream (Some refusal) (Some number) = (λ never. never, tt)

arrivals_quiet : (key : ℕ) (arrivals : List Arrival)
    → NoneOf (RunsOut key) (flat_map arrival_calls arrivals)
arrivals_quiet key [] = tt
arrivals_quiet key (gone ∷ arrivals) = arrivals_quiet key arrivals
arrivals_quiet key (client k address stream refusal ∷ arrivals) =
    none_both (RunsOut key) (admission k stream refusal (meter_of address))
    (flat_map arrival_calls arrivals)
    (admission_quiet key k stream refusal (meter_of address)) (arrivals_quiet key arrivals)

-- ---- no open connection has lost bytes

-- a connection that is over is closed, whatever it lost
whole_over : (terms : FleetTerms) (done : List FleetCall) (f f' : FleetState) (key : ℕ)
    (call : FleetCall) → WholeBut (λ _. ⊥) terms done f
    → ((k : ℕ) → RunsOut k call → key ≡ k)
    → Calls frame_bytes f (call ∷ closed key ∷ []) f'
    → WholeBut (λ _. ⊥) terms (done ++ call ∷ closed key ∷ []) f'
whole_over terms done f f' key call but its by =
    subst (λ (x : FleetState). WholeBut (λ _. ⊥) terms (done ++ call ∷ closed key ∷ []) x)
    (sym by.2.2)
    (subst (λ (cs : List FleetCall). WholeBut (λ _. ⊥) terms cs by.2.0)
    (append_assoc done (call ∷ []) (closed key ∷ []))
    (whole_again (λ k. (⊥ ⊎ RunsOut k call) ⊎ ⊥) terms ((done ++ call ∷ []) ++ closed key ∷ [])
    by.2.0
    (whole_call (λ k. ⊥ ⊎ RunsOut k call) terms frame_bytes (done ++ call ∷ []) by.0 by.2.0
    (closed key) (whole_call (λ _. ⊥) terms frame_bytes done f by.0 call but by.1) by.2.1)
    (λ k c at lost. not_lost k c at lost)))
  where
    not_lost : (k : ℕ) (c : ClientState) → get by.2.0.clients k ≡ Some c
        → ¬ ((⊥ ⊎ RunsOut k call) ⊎ ⊥)
    not_lost k c at (inl (inl never)) = never
    not_lost k c at (inl (inr out)) =
        none-some c (sym by.2.1.1.gone ∙ ap (λ (x : ℕ). get by.2.0.clients x) (its k out) ∙ at)
    not_lost k c at (inr never) = never

whole_service : (terms : FleetTerms) (done : List FleetCall) (f f' : FleetState)
    (service : Service) → WholeBut (λ _. ⊥) terms done f
    → Calls frame_bytes f (service_calls service) f'
    → WholeBut (λ _. ⊥) terms (done ++ service_calls service) f'
whole_service terms done f f' (absent key) but by =
    whole_calls terms frame_bytes done (missed key ∷ []) f f' but by (λ k. (λ never. never, tt))
whole_service terms done f f' (idle key place told) but by =
    whole_calls terms frame_bytes done (ran key place Waits told ∷ []) f f' but by
    (λ k. (λ out. waits_not_over out.1, tt))
whole_service terms done f f' (busy key place told) but by =
    whole_calls terms frame_bytes done (ran key place Again told ∷ []) f f' but by
    (λ k. (λ out. again_not_over out.1, tt))
whole_service terms done f f' (over key place end told) but by =
    whole_over terms done f f' key (ran key place (Over end) told) but (λ k out. out.0) by

whole_services : (terms : FleetTerms) (done : List FleetCall) (f f' : FleetState)
    (services : List Service) → WholeBut (λ _. ⊥) terms done f
    → Calls frame_bytes f (flat_map service_calls services) f'
    → WholeBut (λ _. ⊥) terms (done ++ flat_map service_calls services) f'
whole_services terms done f f' [] but by =
    whole_calls terms frame_bytes done [] f f' but by (λ k. tt)
whole_services terms done f f' (service ∷ services) but by =
    let parts = calls_split frame_bytes (service_calls service) (flat_map service_calls services) f
    f' by in
    subst (λ (cs : List FleetCall). WholeBut (λ _. ⊥) terms cs f')
    (append_assoc done (service_calls service) (flat_map service_calls services))
    (whole_services terms (done ++ service_calls service) parts.0 f' services
    (whole_service terms done f parts.0 service but parts.1) parts.2)

whole_round : (terms : FleetTerms) (done : List FleetCall) (old : LoopState) (round : Round)
    (rest : List ℕ) (log : Option (List NetworkEvent)) (f : FleetState)
    → WholeBut (λ _. ⊥) terms done old.fleet → DoesWork old round rest log f
    → WholeBut (λ _. ⊥) terms (done ++ round_calls round) f
whole_round terms done old round rest log f but works =
    let closings = flat_map departure_calls round.departures in
    let admissions = flat_map arrival_calls round.arrivals in
    let turns = flat_map service_calls round.services in
    let parts = calls_split frame_bytes (closings ++ round.given ++ admissions) turns old.fleet f
    works.calls in
    subst (λ (cs : List FleetCall). WholeBut (λ _. ⊥) terms cs f)
    (append_assoc done (closings ++ round.given ++ admissions) turns)
    (whole_services terms (done ++ (closings ++ round.given ++ admissions)) parts.0 f
    round.services
    (whole_calls terms frame_bytes done (closings ++ round.given ++ admissions) old.fleet parts.0
    but parts.1
    (λ key. none_both (RunsOut key) (closings ++ round.given) admissions
    (none_both (RunsOut key) closings round.given (departures_quiet key round.departures)
    (given_quiet key round.given works.gives))
    (arrivals_quiet key round.arrivals)))
    parts.2)

whole_rounds : (terms : FleetTerms) (done : List FleetCall) (old new : LoopState)
    (rounds : List Round) → WholeBut (λ _. ⊥) terms done old.fleet → DoesRounds old rounds new
    → WholeBut (λ _. ⊥) terms (done ++ flat_map round_calls rounds) new.fleet
whole_rounds terms done old new [] but does =
    whole_calls terms frame_bytes done [] old.fleet new.fleet but
    (ap (λ (s : LoopState). s.fleet) does) (λ k. tt)
whole_rounds terms done old new (round ∷ rounds) but does =
    subst (λ (cs : List FleetCall). WholeBut (λ _. ⊥) terms cs new.fleet)
    (append_assoc done (round_calls round) (flat_map round_calls rounds))
    (whole_rounds terms (done ++ round_calls round) does.0 new rounds
    (whole_round terms done old round [] does.0.log does.0.fleet but does.1.works) does.2)

pub loses_nothing : LosesNothing
loses_nothing terms count log first rounds last new does =
    are_whole terms (flat_map round_calls rounds) last.fleet
    (whole_rounds terms [] (start_of log first) last rounds (whole_new terms count first new) does)
