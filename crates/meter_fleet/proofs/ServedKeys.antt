-- Connections that are served.
use Rattle.std.proofs.Common.{◌≡◌, ◌<◌, ◌+◌, ℕ, slice_index_or, List, [], ◌∷◌, ◌++◌, Option, Some}
use Rattle.std.proofs.Common.{None, IfSome, IfNone, Ok, Err, refl, sym, ◌∙◌, ap, subst, length}
use Rattle.std.proofs.Common.{take, drop, append_assoc, append-nil}
use Rattle.std.specs.Prelude.{map}
use Rattle.std.specs.List.{flat_map}
use Rattle.std.proofs.lemmas.List.{map-append, take_more, take-append-drop}
use Rattle.std.proofs.lemmas.Grind.{flat_map-append}
use Rattle.std.proofs.lemmas.Option.{none-some}
use Rattle.slab.specs.Slab.{get}
use Rattle.fleet_links.specs.Streams.{StreamState}
use Rattle.fleet_links.specs.declared.link.LinkEnd.{LinkEnd}
use Rattle.fleet_links.specs.declared.link.Turn.{Turn}
use Rattle.fleet_links.specs.declared.link.Turn.TheVariants.{Waits, Again, Over}
use Rattle.fleet_meters.specs.Fleets.{FleetState, Runs, Releases}
use Rattle.fleet_meters.specs.Calls.{FleetCall, RunsAt, Calls}
use Rattle.fleet_meters.proofs.Steps.{calls_on}
use Rattle.meter_fleet.specs.Rounds.{Service, absent, idle, busy, over, service_key, service_calls}
use Rattle.meter_fleet.specs.Rounds.{key_again, ServesKeys, StopsAfter, ServesMore, frame_bytes}
use Rattle.meter_fleet.specs.declared.serving.FleetFault.{FleetFault}
use Rattle.meter_fleet.specs.declared.serving.FleetFault.TheVariants.{Network, Memory}

-- ---- one connection

serves_one : (old new : FleetState) (service : Service)
    → Calls frame_bytes old (service_calls service) new
    → ServesKeys old (service_key service ∷ []) (key_again service) new
serves_one old new service calls = record {
  services = service ∷ [];
  keys_are = refl;
  again_are = append-nil (key_again service);
  calls = subst (λ (cs : List FleetCall). Calls frame_bytes old cs new)
      (sym (append-nil (service_calls service))) calls;
}

-- a connection that ran
ran_at : (room : ℕ) (old new : FleetState) (key : ℕ) (turn : Turn) → room ≡ frame_bytes
    → (runs : Runs room old key turn new)
    → RunsAt frame_bytes old key runs.before.place turn runs.turns.turns.turns.serves.went.told new
ran_at room old new key turn same runs = subst (λ (n : ℕ).
    RunsAt n old key runs.before.place turn runs.turns.turns.turns.serves.went.told new) same
    (record { runs = runs; at = refl; applied = refl })

serves_absent : (old new : FleetState) (key : ℕ)
    → (get old.clients key ≡ None) × (new ≡ old) → ServesKeys old (key ∷ []) [] new
serves_absent old new key by = serves_one old new (absent key) (new, by, refl)

serves_idle : (room : ℕ) (old new : FleetState) (key : ℕ) → room ≡ frame_bytes
    → Runs room old key Waits new → ServesKeys old (key ∷ []) [] new
serves_idle room old new key same runs =
    serves_one old new
    (idle key runs.before.place runs.turns.turns.turns.serves.went.told)
    (new, ran_at room old new key Waits same runs, refl)

serves_busy : (room : ℕ) (old new : FleetState) (key : ℕ) → room ≡ frame_bytes
    → Runs room old key Again new → ServesKeys old (key ∷ []) (key ∷ []) new
serves_busy room old new key same runs =
    serves_one old new
    (busy key runs.before.place runs.turns.turns.turns.serves.went.told)
    (new, ran_at room old new key Again same runs, refl)

-- a connection that is over is there, and is closed
serves_over : {S : Type 0} (state : S → StreamState) (room : ℕ) (old between new : FleetState)
    (key : ℕ) (end : LinkEnd) (stream : Option S) → room ≡ frame_bytes
    → Runs room old key (Over end) between
    → IfSome stream (λ s. Releases between key (state s) new)
    → IfNone stream ((get between.clients key ≡ None) × (new ≡ between))
    → ServesKeys old (key ∷ []) [] new
serves_over state room old between new key end None same runs releases none =
    absurd (none-some runs.after (sym none.0 ∙ runs.is))
serves_over state room old between new key end (Some stream) same runs releases none =
    serves_one old new
    (over key runs.before.place end runs.turns.turns.turns.serves.went.told) (
      between,
      ran_at room old between key (Over end) same runs,
      (new, (state stream, releases), refl),
    )

-- the result of a turn
pub serves_absent_on : (old new : FleetState) (key : ℕ) (next : List ℕ)
    → (get old.clients key ≡ None) × (new ≡ old) → ServesMore old (key ∷ []) next (Ok tt) next new
serves_absent_on old new key next by =
    ([], serves_absent old new key by, sym (append-nil next))

pub serves_idle_on : (room : ℕ) (old new : FleetState) (key : ℕ) (next : List ℕ) (turn : Turn)
    → turn ≡ Waits → room ≡ frame_bytes → Runs room old key turn new
    → ServesMore old (key ∷ []) next (Ok tt) next new
serves_idle_on room old new key next turn is same runs = (
  [],
  serves_idle room old new key same (subst (λ (t : Turn). Runs room old key t new) is runs),
  sym (append-nil next),
)

pub serves_busy_on : (room : ℕ) (old new : FleetState) (key : ℕ) (next next' : List ℕ)
    (turn : Turn) → turn ≡ Again → room ≡ frame_bytes → Runs room old key turn new
    → next' ≡ next ++ key ∷ [] → ServesMore old (key ∷ []) next (Ok tt) next' new
serves_busy_on room old new key next next' turn is same runs grown = (
  key ∷ [],
  serves_busy room old new key same (subst (λ (t : Turn). Runs room old key t new) is runs),
  grown,
)

pub serves_over_on : {S : Type 0} (state : S → StreamState) (room : ℕ)
    (old between new : FleetState) (key : ℕ) (next : List ℕ) (end : LinkEnd) (turn : Turn)
    (stream : Option S) → turn ≡ Over end → room ≡ frame_bytes → Runs room old key turn between
    → IfSome stream (λ s. Releases between key (state s) new)
    → IfNone stream ((get between.clients key ≡ None) × (new ≡ between))
    → ServesMore old (key ∷ []) next (Ok tt) next new
serves_over_on state room old between new key next end turn stream is same runs releases none = (
  [],
  serves_over state room old between new key end stream same
      (subst (λ (t : Turn). Runs room old key t between) is runs) releases none,
  sym (append-nil next),
)

pub stops_busy : (room : ℕ) (old new : FleetState) (key : ℕ) (turn : Turn) → turn ≡ Again
    → room ≡ frame_bytes → Runs room old key turn new → StopsAfter old (key ∷ []) new
stops_busy room old new key turn is same runs = record {
  done = key ∷ [];
  left = [];
  again = key ∷ [];
  split = refl;
  serves = serves_busy room old new key same
      (subst (λ (t : Turn). Runs room old key t new) is runs);
}

-- ---- several connections

pub serves_none : (f : FleetState) → ServesKeys f [] [] f
serves_none f = record { services = []; keys_are = refl; again_are = refl; calls = refl }

pub serves_more : (a b c : FleetState) (keys keys' again again' : List ℕ)
    → ServesKeys a keys again b → ServesKeys b keys' again' c
    → ServesKeys a (keys ++ keys') (again ++ again') c
serves_more a b c keys keys' again again' first then_ = record {
  services = first.services ++ then_.services;
  keys_are = map-append service_key first.services then_.services
      ∙ ap (λ (ks : List ℕ). ks ++ map service_key then_.services) first.keys_are
      ∙ ap (λ (ks : List ℕ). keys ++ ks) then_.keys_are;
  again_are = flat_map-append key_again first.services then_.services
      ∙ ap (λ (ks : List ℕ). ks ++ flat_map key_again then_.services) first.again_are
      ∙ ap (λ (ks : List ℕ). again ++ ks) then_.again_are;
  calls = subst (λ (cs : List FleetCall). Calls frame_bytes a cs c)
      (sym (flat_map-append service_calls first.services then_.services))
      (calls_on frame_bytes (flat_map service_calls first.services)
      (flat_map service_calls then_.services) a b c first.calls then_.calls);
}

-- some connections, followed by another
pub serves_on : (a b c : FleetState) (keys next next' next'' : List ℕ) (key : ℕ)
    → ServesMore a keys next (Ok tt) next' b → ServesMore b (key ∷ []) next' (Ok tt) next'' c
    → ServesMore a (keys ++ key ∷ []) next (Ok tt) next'' c
serves_on a b c keys next next' next'' key first then_ = (
  first.0 ++ then_.0,
  serves_more a b c keys (key ∷ []) first.0 then_.0 first.1 then_.1,
  then_.2 ∙ ap (λ (ks : List ℕ). ks ++ then_.0) first.2
      ∙ append_assoc next first.0 then_.0,
)

-- memory ran out at the last of some connections
pub stops_on : (a b c : FleetState) (keys all rest next next' next'' : List ℕ) (key : ℕ)
    (fault : FleetFault) → ServesMore a keys next (Ok tt) next' b
    → ServesMore b (key ∷ []) next' (Err fault) next'' c → (keys ++ key ∷ []) ++ rest ≡ all
    → ServesMore a all next (Err fault) next'' c
stops_on a b c keys all rest next next' next'' key (Network why) first then_ split =
    absurd then_
stops_on a b c keys all rest next next' next'' key Memory first then_ split = record {
  done = keys ++ then_.done;
  left = then_.left ++ rest;
  again = first.0 ++ then_.again;
  split = sym (append_assoc (keys ++ then_.done) then_.left rest)
      ∙ ap (λ (ks : List ℕ). ks ++ rest) (append_assoc keys then_.done then_.left
      ∙ ap (λ (ks : List ℕ). keys ++ ks) then_.split)
      ∙ split;
  serves = serves_more a b c keys then_.done first.0 then_.again first.1 then_.serves;
}

-- the first keys of a list, and the next one
pub serves_next : (a b c : FleetState) (keys next next' next'' : List ℕ) (i key d : ℕ)
    → i < length keys → key ≡ slice_index_or keys i d
    → ServesMore a (take i keys) next (Ok tt) next' b
    → ServesMore b (key ∷ []) next' (Ok tt) next'' c
    → ServesMore a (take (i + 1) keys) next (Ok tt) next'' c
serves_next a b c keys next next' next'' i key d within is first then_ =
    subst (λ (ks : List ℕ). ServesMore a ks next (Ok tt) next'' c)
    (ap (λ (k : ℕ). take i keys ++ k ∷ []) is ∙ sym (take_more keys i d within))
    (serves_on a b c (take i keys) next next' next'' key first then_)

pub stops_next : (a b c : FleetState) (keys next next' next'' : List ℕ) (i key d : ℕ)
    (fault : FleetFault) → i < length keys → key ≡ slice_index_or keys i d
    → ServesMore a (take i keys) next (Ok tt) next' b
    → ServesMore b (key ∷ []) next' (Err fault) next'' c
    → ServesMore a keys next (Err fault) next'' c
stops_next a b c keys next next' next'' i key d fault within is first then_ =
    stops_on a b c (take i keys) keys (drop (i + 1) keys) next next' next'' key fault first then_
    (ap (λ (k : ℕ). (take i keys ++ k ∷ []) ++ drop (i + 1) keys) is
    ∙ ap (λ (ks : List ℕ). ks ++ drop (i + 1) keys) (sym (take_more keys i d within))
    ∙ take-append-drop (i + 1) keys)
