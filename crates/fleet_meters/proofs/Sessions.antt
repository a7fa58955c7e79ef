-- The sessions of the connections of a fleet, after one more call.
use Rattle.std.proofs.Common.{◌≡◌, ◌≢◌, ◌<◌, ◌≤◌, ◌||◌, ℕ, Bool, true, inl, inr, ◌⊎◌, List}
use Rattle.std.proofs.Common.{[], ◌∷◌, Option, Some, None, Ok, Err, refl, sym, ◌∙◌, ap, subst, arith}
use Rattle.std.proofs.Common.{suc, length, slice_index_or}
use Rattle.std.specs.Prelude.{map, All, AllPairs, eqb}
use Rattle.std.proofs.lemmas.Bool.{false≢true}
use Rattle.std.proofs.lemmas.List.{get_or-map, length-map}
use Rattle.std.proofs.lemmas.Map.Made.{IsDistinct-from_AllPairs}
use Rattle.std.proofs.lemmas.Map.Steps.{length-le_from_distinct_below}
use Rattle.std.proofs.lemmas.Option.{same_Some, none-some}
use Rattle.std.specs.List.{list_any}
use Rattle.slab.specs.Slab.{Slab, get}
use Rattle.embedded_meter.specs.MeterStates.{max_sessions}
use Rattle.fleet_links.specs.Streams.{StreamState}
use Rattle.fleet_meters.specs.Clients.{ClientState}
use Rattle.fleet_meters.specs.Fleets.{FleetState, IsFleet, IsNewFleet, MetersStay}
use Rattle.fleet_meters.specs.Places.{PlacesStay}
use Rattle.fleet_meters.specs.declared.terms.FleetTerms.{FleetTerms}
use Rattle.fleet_meters.proofs.Fleets.{runs_keeps, releases_keeps, admits_keeps, unchanged_keeps}
use Rattle.fleet_meters.specs.Calls.{FleetCall, admitted, ran, closed, missed, gave, CallsBy}
use Rattle.fleet_meters.specs.Moments.{Addresses, IsConnected}
use Rattle.fleet_meters.proofs.Steps.{by_number, refused}

-- ---- the invariant

pub fleet_new : (terms : FleetTerms) (count : ℕ) (f : FleetState) → IsNewFleet terms count f
    → IsFleet f
fleet_new terms count f new = record {
  is_open = λ key c at. absurd (none-some c (sym (new.unused key) ∙ at));
  apart = λ key other c d at at' e e'. absurd (none-some c (sym (new.unused key) ∙ at));
}

places_stay : (f f' : FleetState) (place : ℕ) → MetersStay f place f'
    → PlacesStay f.places place f'.places
places_stay f f' place stay = record { places = stay.places; count = stay.count }

pub fleet_call : (room : ℕ) (f f' : FleetState) (call : FleetCall) → IsFleet f
    → CallsBy room f call f' → IsFleet f'
fleet_call room f f' (admitted number stream (Ok key)) fleet by =
    admits_keeps f f' key by.0 by.2.number stream fleet by.2.client by.2.isolated.clients
    (places_stay f f' by.0 by.2.stay) by.2.seats
fleet_call room f f' (admitted number stream (Err why)) fleet by =
    let same = refused f f' number stream why by in
    unchanged_keeps f f' fleet same.places same.clients
fleet_call room f f' (ran key place turn told) fleet by =
    runs_keeps room f f' key turn by.runs.before by.runs.after fleet by.runs.was by.runs.is
    by.runs.isolated.clients (places_stay f f' by.runs.before.place by.runs.stay) by.runs.turns
fleet_call room f f' (closed key) fleet by =
    let releases = by.1 in
    releases_keeps f f' key releases.client fleet releases.was releases.gone
    releases.isolated.clients (places_stay f f' releases.client.place releases.stay)
    releases.frees
fleet_call room f f' (missed key) fleet by =
    subst (λ (x : FleetState). IsFleet x) (sym by.1) fleet
fleet_call room f f' (gave place event reply) fleet by = record {
  is_open = λ key c at none. fleet.is_open key c (was key c at)
      (sym (by.sessions c.place c.number) ∙ none);
  apart = λ key other c d at at'. fleet.apart key other c d (was key c at) (was other d at');
}
  where
    was : (key : ℕ) (c : ClientState) → get f'.clients key ≡ Some c → get f.clients key ≡ Some c
    was key c at = ap (λ (x : Slab ClientState). get x key) (sym by.clients) ∙ at

-- ---- where a connection comes from

-- the connection was there before a call, with its place and its session
pub record Was (f : FleetState) (key : ℕ) (c : ClientState) : Type 0 where
  pub client : ClientState
  pub is : get f.clients key ≡ Some client
  pub place : c.place ≡ client.place
  pub number : c.number ≡ client.number

-- the connection is new
pub record IsNewly (call : FleetCall) (c : ClientState) : Type 0 where
  pub within : c.number < max_sessions
  pub asked : Addresses c.place call

was_there : (f : FleetState) (key : ℕ) (c : ClientState) → get f.clients key ≡ Some c
    → Was f key c
was_there f key c at = record { client = c; is = at; place = refl; number = refl }

newly : (call : FleetCall) (place number : ℕ) (stream : StreamState) (c : ClientState)
    → record { place = place; number = number; stream = stream; pending = [] } ≡ c
    → number < max_sessions → Addresses place call → IsNewly call c
newly call place number stream c same within asked =
    subst (λ (x : ClientState). IsNewly call x) same (record { within = within; asked = asked })

pub from_call : (room : ℕ) (f f' : FleetState) (call : FleetCall) → CallsBy room f call f'
    → (key : ℕ) (c : ClientState) → get f'.clients key ≡ Some c
    → Was f key c ⊎ IsNewly call c
from_call room f f' (admitted number stream (Ok k)) by key c at = by_number k key
    (λ e _. inr (newly (admitted number stream (Ok k)) by.0 by.2.number stream c
    (same_Some
    (record { place = by.0; number = by.2.number; stream = stream; pending = [] }) c
    (sym by.2.client ∙ ap (λ (x : ℕ). get f'.clients x) e ∙ at))
    by.2.seats.opens.within by.1))
    (λ far _. inl (was_there f key c
    (sym (by.2.isolated.clients key (λ e. far (sym e))) ∙ at)))
from_call room f f' (admitted number stream (Err why)) by key c at =
    let same = refused f f' number stream why by in
    inl (was_there f key c (sym (same.clients key) ∙ at))
from_call room f f' (ran k place turn told) by key c at = by_number k key
    (λ e _.
    let same : c ≡ by.runs.after =
    same_Some c by.runs.after (sym at ∙ ap (λ (x : ℕ). get f'.clients x) (sym e) ∙ by.runs.is) in
    inl (record {
      client = by.runs.before;
      is = ap (λ (x : ℕ). get f.clients x) (sym e) ∙ by.runs.was;
      place = ap (λ (x : ClientState). x.place) same ∙ by.runs.turns.turns.place;
      number = ap (λ (x : ClientState). x.number) same ∙ by.runs.turns.turns.number;
    }))
    (λ far _. inl (was_there f key c
    (sym (by.runs.isolated.clients key (λ e. far (sym e))) ∙ at)))
from_call room f f' (closed k) by key c at = by_number k key
    (λ e _. absurd (none-some c (sym by.1.gone ∙ ap (λ (x : ℕ). get f'.clients x) e ∙ at)))
    (λ far _. inl (was_there f key c
    (sym (by.1.isolated.clients key (λ e. far (sym e))) ∙ at)))
from_call room f f' (missed k) by key c at =
    inl (was_there f key c (ap (λ (x : FleetState). get x.clients key) (sym by.1) ∙ at))
from_call room f f' (gave place event reply) by key c at =
    inl (was_there f key c (ap (λ (x : Slab ClientState). get x key) (sym by.clients) ∙ at))

-- ---- eight sessions

-- the number of each session is less than 8
pub record AreWithin (f : FleetState) : Type 0 where
  pub numbers : (key : ℕ) (c : ClientState) → get f.clients key ≡ Some c
      → c.number < max_sessions

pub within_new : (terms : FleetTerms) (count : ℕ) (f : FleetState) → IsNewFleet terms count f
    → AreWithin f
within_new terms count f new = record {
  numbers = λ key c at. absurd (none-some c (sym (new.unused key) ∙ at));
}

within_there : (f : FleetState) (call : FleetCall) (key : ℕ) (c : ClientState) → AreWithin f
    → Was f key c ⊎ IsNewly call c → c.number < max_sessions
within_there f call key c within (inl was) =
    subst (λ (n : ℕ). n < max_sessions) (sym was.number) (within.numbers key was.client was.is)
within_there f call key c within (inr new) = new.within

pub within_call : (room : ℕ) (f f' : FleetState) (call : FleetCall) → AreWithin f
    → CallsBy room f call f' → AreWithin f'
within_call room f f' call within by = record {
  numbers = λ key c at. within_there f call key c within (from_call room f f' call by key c at);
}

-- two numbers are equal exactly if `==` holds of them
tells_equal : (a b : ℕ) → (eqb a b ≡ true → a ≡ b) × (a ≡ b → eqb a b ≡ true)
tells_equal a b = (
  λ is. by_number a b (λ e _. e) (λ _ no. absurd (false≢true (sym no ∙ is))),
  λ e. by_number a b (λ _ is. is) (λ far _. absurd (far e)),
)

-- a number that is among numbers less than another is less than it
below_any : (xs : List ℕ) (q n : ℕ) → ((i : ℕ) → i < length xs → slice_index_or xs i 0 < n)
    → list_any (eqb q) xs ≡ true → q < n
below_any [] q n below any = absurd (false≢true any)
below_any (x ∷ xs) q n below any = by_number q x
    (λ e _. subst (λ (k : ℕ). k < n) (sym e) (below 0 (omega arith)))
    (λ _ no. below_any xs q n (λ i lt. below (suc i) (omega (arith, lt)))
    (sym (ap (λ (b : Bool). b || list_any (eqb q) xs) no) ∙ any))

-- the number of the session of the connection with this key; 0 if there is none
abbrev number_at : Option ClientState → ℕ
number_at None = 0
number_at (Some c) = c.number

pub at_most_eight : (f : FleetState) → IsFleet f → AreWithin f → (place : ℕ) (keys : List ℕ)
    → AllPairs (λ key other. key ≢ other) keys → All (IsConnected f place) keys
    → length keys ≤ max_sessions
at_most_eight f fleet within place keys apart connected =
    subst (λ (n : ℕ). n ≤ max_sessions) (length-map keys of_key)
    (length-le_from_distinct_below (map of_key keys) max_sessions
    (IsDistinct-from_AllPairs tells_equal (map of_key keys) pairs)
    (λ q any. below_any (map of_key keys) q max_sessions below any))
  where
    of_key : ℕ → ℕ
    of_key key = number_at (get f.clients key)

    in_keys : (i : ℕ) → i < length (map of_key keys) → i < length keys
    in_keys i lt = subst (λ (n : ℕ). i < n) (length-map keys of_key) lt

    key_at : ℕ → ℕ
    key_at i = slice_index_or keys i 0

    there : (i : ℕ) → i < length keys → IsConnected f place (key_at i)
    there i lt = connected i 0 lt

    number_there : (i : ℕ) (d : ℕ) → (lt : i < length keys)
        → slice_index_or (map of_key keys) i d ≡ (there i lt).client.number
    number_there i d lt = get_or-map of_key keys i 0 d lt
        ∙ ap (λ (c : Option ClientState). number_at c) (there i lt).is

    pairs : AllPairs (λ one other. one ≢ other) (map of_key keys)
    pairs i j d before lt same =
        let last = in_keys j lt in
        let first : i < length keys = omega (arith, before, last) in
        apart i j 0 before last
        (fleet.apart (key_at i) (key_at j) (there i first).client (there j last).client
        (there i first).is (there j last).is ((there i first).at ∙ sym (there j last).at)
        (sym (number_there i d first) ∙ same ∙ number_there j d last))

    below : (i : ℕ) → i < length (map of_key keys)
        → slice_index_or (map of_key keys) i 0 < max_sessions
    below i lt =
        let inside = in_keys i lt in
        subst (λ (n : ℕ). n < max_sessions) (sym (number_there i 0 inside))
        (within.numbers (key_at i) (there i inside).client (there i inside).is)
