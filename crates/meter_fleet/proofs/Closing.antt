-- Connections that are closed.
use Rattle.std.proofs.Common.{◌≡◌, ◌<◌, ◌+◌, ℕ, slice_index_or, List, [], ◌∷◌, ◌++◌, Option, Some}
use Rattle.std.proofs.Common.{None, IfSome, IfNone, refl, sym, ◌∙◌, ap, subst, length, take}
use Rattle.std.specs.Prelude.{map}
use Rattle.std.specs.List.{flat_map}
use Rattle.std.proofs.lemmas.List.{map-append, take_more}
use Rattle.std.proofs.lemmas.Grind.{flat_map-append}
use Rattle.slab.specs.Slab.{get}
use Rattle.fleet_links.specs.Streams.{StreamState}
use Rattle.fleet_meters.specs.Fleets.{FleetState, Releases}
use Rattle.fleet_meters.specs.Calls.{FleetCall, Calls}
use Rattle.fleet_meters.proofs.Steps.{calls_on}
use Rattle.meter_fleet.specs.Rounds.{left, vacant, departure_key, departure_calls, ClosesKeys}
use Rattle.meter_fleet.specs.Rounds.{frame_bytes}

-- ---- one connection

pub closes_one : {S : Type 0} (state : S → StreamState) (old new : FleetState) (key : ℕ)
    (stream : Option S) → IfSome stream (λ s. Releases old key (state s) new)
    → IfNone stream ((get old.clients key ≡ None) × (new ≡ old)) → ClosesKeys old (key ∷ []) new
closes_one state old new key None releases none =
    record { departures = vacant key ∷ []; keys_are = refl; calls = (new, none, refl) }
closes_one state old new key (Some stream) releases none = record {
  departures = left key ∷ [];
  keys_are = refl;
  calls = (new, (state stream, releases), refl);
}

-- ---- several connections

pub closes_none : (f : FleetState) → ClosesKeys f [] f
closes_none f = record { departures = []; keys_are = refl; calls = refl }

closes_more : (a b c : FleetState) (keys keys' : List ℕ) → ClosesKeys a keys b
    → ClosesKeys b keys' c → ClosesKeys a (keys ++ keys') c
closes_more a b c keys keys' first then_ = record {
  departures = first.departures ++ then_.departures;
  keys_are = map-append departure_key first.departures then_.departures
      ∙ ap (λ (ks : List ℕ). ks ++ map departure_key then_.departures) first.keys_are
      ∙ ap (λ (ks : List ℕ). keys ++ ks) then_.keys_are;
  calls = subst (λ (cs : List FleetCall). Calls frame_bytes a cs c)
      (sym (flat_map-append departure_calls first.departures then_.departures))
      (calls_on frame_bytes (flat_map departure_calls first.departures)
      (flat_map departure_calls then_.departures) a b c first.calls then_.calls);
}

-- the first keys of a list, and the next one
pub closes_next : (a b c : FleetState) (keys : List ℕ) (i key d : ℕ) → i < length keys
    → key ≡ slice_index_or keys i d → ClosesKeys a (take i keys) b → ClosesKeys b (key ∷ []) c
    → ClosesKeys a (take (i + 1) keys) c
closes_next a b c keys i key d within is first then_ =
    subst (λ (ks : List ℕ). ClosesKeys a ks c)
    (ap (λ (k : ℕ). take i keys ++ k ∷ []) is ∙ sym (take_more keys i d within))
    (closes_more a b c (take i keys) (key ∷ []) first then_)
