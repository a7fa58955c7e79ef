-- A fleet after a call.
use Rattle.std.proofs.Common.{◌≡◌, ◌≢◌, ◌<◌, ℕ, zero, suc, List, [], ◌∷◌, Option, Some, None, Result, Ok, Err, refl, sym, ◌∙◌, ap, subst, arith, length, slice_index_or, slice_set}
use native.Mathlib.Decide.{ℕ_discrete}
use Rattle.std.proofs.lemmas.List.{get_or-set_same, get_or-set_other}
use Rattle.std.proofs.lemmas.Option.{same_Some, none-some}
use Rattle.slab.specs.Slab.{Slab, Updates, get, with_value}
use Rattle.relay_events.specs.declared.event.Event.{Event}
use Rattle.relay_events.specs.declared.reply.Reply.{Reply}
use Rattle.embedded_meter.specs.MeterStates.{MeterState}
use Rattle.fleet_links.specs.Streams.{StreamState}
use Rattle.fleet_links.specs.declared.link.Turn.{Turn}
use Rattle.fleet_meters.specs.Clients.{ClientState}
use Rattle.fleet_meters.specs.Fleets.{Applies, GivesBy}
use Rattle.fleet_meters.specs.Fleets.{FleetState, IsFleet, Isolated, MetersStay, Admits, AdmitsBy, Runs, Releases}
use Rattle.fleet_meters.specs.Places.{Gives, GivesIn}
use Rattle.fleet_meters.specs.Places.{PlacesStay, Seats, SeatsIn, Frees, TurnsAt, meter_in, session_in, session_of}
use Rattle.fleet_meters.specs.declared.place.AccessFault.{AccessFault}
use Rattle.fleet_meters.specs.declared.place.AccessFault.TheVariants as access
use Rattle.fleet_meters.specs.declared.place.Refusal.{Refusal}
use Rattle.fleet_meters.specs.declared.place.Refusal.TheVariants.{NoMeter, Full}
use Rattle.fleet_meters.specs.declared.place.Refusal.TheVariants as refusal
use Rattle.fleet_meters.specs.Terms.{terms_at}
use Rattle.fleet_meters.specs.declared.terms.FleetTerms.{FleetTerms}
use Rattle.fleet_meters.proofs.Seats.{seats_others, seats_free, seats_open, frees_others, turns_others, turns_open, turns_in, places_set, within_places, gives_sessions}

-- either two sessions are the same, or they differ in the meter or in the number
one_or_other : {X : Type 0} (place place' number number' : ℕ)
    → (place ≡ place' → number ≡ number' → X) → (place ≢ place' → X)
    → (place ≡ place' → number ≢ number' → X) → X
one_or_other place place' number number' same far near = elim (ℕ_discrete place place') [
  | yes e ↦ elim (ℕ_discrete number number') [
    | yes f ↦ same e f
    | no never ↦ near e never
  ]
  | no never ↦ far never
]

-- a session other than the one that a call changed
session_stays : (old new : List (Option MeterState)) (place number : ℕ)
    → PlacesStay old place new
    → ((other : ℕ) → other ≢ number
    → session_of (meter_in new place) other ≡ session_of (meter_in old place) other)
    → (p n : ℕ) → (p ≡ place → n ≡ number → ⊥) → session_in new p n ≡ session_in old p n
session_stays old new place number stay others p n apart = one_or_other p place n number
    (λ e f. absurd (apart e f))
    (λ far. ap (λ (m : Option MeterState). session_of m n) (stay.places p far))
    (λ e near. subst (λ (q : ℕ). session_in new q n ≡ session_in old q n) (sym e)
    (others n near))

-- two connections under different keys have different sessions
keys_apart : (f : FleetState) (key other : ℕ) (c d : ClientState) → IsFleet f → other ≢ key
    → get f.clients key ≡ Some c → get f.clients other ≡ Some d
    → d.place ≡ c.place → d.number ≡ c.number → ⊥
keys_apart f key other c d fleet far at at' e e' =
    far (fleet.apart other key d c at' at e e')

-- what a call of one connection does leaves the others unchanged
isolates : (f f' : FleetState) (key : ℕ) (c : ClientState) → IsFleet f
    → get f.clients key ≡ Some c
    → ((other : ℕ) → other ≢ key → get f'.clients other ≡ get f.clients other)
    → PlacesStay f.places c.place f'.places
    → ((other : ℕ) → other ≢ c.number
    → session_of (meter_in f'.places c.place) other
    ≡ session_of (meter_in f.places c.place) other)
    → Isolated f key f'
isolates f f' key c fleet at clients stay others = record {
  clients = clients;
  sessions = λ other d far at'.
      session_stays f.places f'.places c.place c.number stay others d.place d.number
      (keys_apart f key other c d fleet far at at');
}

meters_stay : (f f' : FleetState) (place : ℕ) → f'.terms ≡ f.terms
    → PlacesStay f.places place f'.places → MetersStay f place f'
meters_stay f f' place terms stay = record {
  places = stay.places;
  count = stay.count;
  terms = terms;
}

-- ---- the invariant after a call

-- each connection has the session that it had
record SameSeats (old new : Slab ClientState) : Type 0 where
  pub seat : (key : ℕ) (c : ClientState) → get new key ≡ Some c → (d : ClientState)
      × (get old key ≡ Some d) × (c.place ≡ d.place) × (c.number ≡ d.number)

stays_apart : (f f' : FleetState) → IsFleet f → SameSeats f.clients f'.clients
    → (key other : ℕ) (c d : ClientState) → get f'.clients key ≡ Some c
    → get f'.clients other ≡ Some d → c.place ≡ d.place → c.number ≡ d.number → key ≡ other
stays_apart f f' fleet same key other c d at at' e e' =
    let one = same.seat key c at in
    let two = same.seat other d at' in
    fleet.apart key other one.0 two.0 one.1 two.1 (sym one.2 ∙ e ∙ two.2)
    (sym one.3 ∙ e' ∙ two.3)

-- a session that is not the changed one is open after a call
others_open : (f f' : FleetState) (key : ℕ) → IsFleet f → Isolated f key f'
    → (other : ℕ) (d : ClientState) → other ≢ key → get f'.clients other ≡ Some d
    → session_in f'.places d.place d.number ≢ None
others_open f f' key fleet isolated other d far at none =
    let before = sym (isolated.clients other far) ∙ at in
    fleet.is_open other d before (sym (isolated.sessions other d far before) ∙ none)

-- ---- a turn

pub runs_isolated : (room : ℕ) (f f' : FleetState) (key : ℕ) (turn : Turn) (c c' : ClientState)
    → IsFleet f → get f.clients key ≡ Some c
    → ((other : ℕ) → other ≢ key → get f'.clients other ≡ get f.clients other)
    → PlacesStay f.places c.place f'.places
    → TurnsAt room (meter_in f.places c.place) c turn (meter_in f'.places c.place) c'
    → Isolated f key f'
runs_isolated room f f' key turn c c' fleet at clients stay turns =
    isolates f f' key c fleet at clients stay
    (λ other. turns_others room (meter_in f.places c.place) (meter_in f'.places c.place) c c' turn
    other turns)

pub runs_keeps : (room : ℕ) (f f' : FleetState) (key : ℕ) (turn : Turn) (c c' : ClientState)
    → IsFleet f → get f.clients key ≡ Some c → get f'.clients key ≡ Some c'
    → ((other : ℕ) → other ≢ key → get f'.clients other ≡ get f.clients other)
    → PlacesStay f.places c.place f'.places
    → TurnsAt room (meter_in f.places c.place) c turn (meter_in f'.places c.place) c'
    → IsFleet f'
runs_keeps room f f' key turn c c' fleet at at' clients stay turns = record {
  is_open = open_at;
  apart = stays_apart f f' fleet (record { seat = seat_at });
}
  where
    isolated : Isolated f key f'
    isolated = runs_isolated room f f' key turn c c' fleet at clients stay turns

    open_c : session_in f'.places c'.place c'.number ≢ None
    open_c = subst (λ (p : ℕ). session_in f'.places p c'.number ≢ None) (sym turns.turns.place)
        (subst (λ (n : ℕ). session_in f'.places c.place n ≢ None) (sym turns.turns.number)
        (turns_open room (meter_in f.places c.place) (meter_in f'.places c.place) c c' turn turns))

    open_at : (other : ℕ) (d : ClientState) → get f'.clients other ≡ Some d
        → session_in f'.places d.place d.number ≢ None
    open_at other d at_d = elim (ℕ_discrete other key) [
      | yes e ↦ subst (λ (x : ClientState). session_in f'.places x.place x.number ≢ None)
          (same_Some c' d (sym at' ∙ ap (λ (k : ℕ). get f'.clients k) (sym e) ∙ at_d)) open_c
      | no far ↦ others_open f f' key fleet isolated other d far at_d
    ]

    seat_at : (other : ℕ) (d : ClientState) → get f'.clients other ≡ Some d → (b : ClientState)
        × (get f.clients other ≡ Some b) × (d.place ≡ b.place) × (d.number ≡ b.number)
    seat_at other d at_d = elim (ℕ_discrete other key) [
      | yes e ↦
          let same : d ≡ c' = same_Some d c' (sym at_d ∙ ap (λ (k : ℕ). get f'.clients k) e
          ∙ at') in (
            c,
            ap (λ (k : ℕ). get f.clients k) e ∙ at,
            ap (λ (x : ClientState). x.place) same ∙ turns.turns.place,
            ap (λ (x : ClientState). x.number) same ∙ turns.turns.number,
          )
      | no far ↦ (d, sym (clients other far) ∙ at_d, refl, refl)
    ]

-- ---- an end

pub releases_isolated : (f f' : FleetState) (key : ℕ) (c : ClientState) → IsFleet f
    → get f.clients key ≡ Some c
    → ((other : ℕ) → other ≢ key → get f'.clients other ≡ get f.clients other)
    → PlacesStay f.places c.place f'.places
    → Frees (meter_in f.places c.place) c.number (meter_in f'.places c.place)
    → Isolated f key f'
releases_isolated f f' key c fleet at clients stay frees =
    isolates f f' key c fleet at clients stay
    (λ other. frees_others (meter_in f.places c.place) (meter_in f'.places c.place) c.number other
    frees)

pub releases_keeps : (f f' : FleetState) (key : ℕ) (c : ClientState) → IsFleet f
    → get f.clients key ≡ Some c → get f'.clients key ≡ None
    → ((other : ℕ) → other ≢ key → get f'.clients other ≡ get f.clients other)
    → PlacesStay f.places c.place f'.places
    → Frees (meter_in f.places c.place) c.number (meter_in f'.places c.place)
    → IsFleet f'
releases_keeps f f' key c fleet at gone clients stay frees = record {
  is_open = open_at;
  apart = stays_apart f f' fleet (record { seat = seat_at });
}
  where
    isolated : Isolated f key f'
    isolated = releases_isolated f f' key c fleet at clients stay frees

    never : (other : ℕ) (d : ClientState) → get f'.clients other ≡ Some d → other ≢ key
    never other d at_d e =
        none-some d (sym gone ∙ ap (λ (k : ℕ). get f'.clients k) (sym e) ∙ at_d)

    open_at : (other : ℕ) (d : ClientState) → get f'.clients other ≡ Some d
        → session_in f'.places d.place d.number ≢ None
    open_at other d at_d = others_open f f' key fleet isolated other d (never other d at_d) at_d

    seat_at : (other : ℕ) (d : ClientState) → get f'.clients other ≡ Some d → (b : ClientState)
        × (get f.clients other ≡ Some b) × (d.place ≡ b.place) × (d.number ≡ b.number)
    seat_at other d at_d = (d, sym (clients other (never other d at_d)) ∙ at_d, refl, refl)

-- ---- an admission

abbrev new_client : ℕ → ℕ → StreamState → ClientState
new_client place number stream =
    record { place = place; number = number; stream = stream; pending = [] }

-- no connection has the session that was free
free_apart : (f : FleetState) (place number : ℕ) → IsFleet f
    → session_in f.places place number ≡ None → (key : ℕ) (d : ClientState)
    → get f.clients key ≡ Some d → d.place ≡ place → d.number ≡ number → ⊥
free_apart f place number fleet free key d at e e' =
    fleet.is_open key d at (ap (λ (p : ℕ). session_in f.places p d.number) e
    ∙ ap (λ (n : ℕ). session_in f.places place n) e' ∙ free)

pub admits_isolated : (f f' : FleetState) (key place number : ℕ) → IsFleet f
    → ((other : ℕ) → other ≢ key → get f'.clients other ≡ get f.clients other)
    → PlacesStay f.places place f'.places
    → Seats (terms_at f.terms place) (meter_in f.places place) number (meter_in f'.places place)
    → Isolated f key f'
admits_isolated f f' key place number fleet clients stay seats = record {
  clients = clients;
  sessions = λ other d far at.
      session_stays f.places f'.places place number stay
      (λ n. seats_others (terms_at f.terms place) (meter_in f.places place)
      (meter_in f'.places place) number n seats)
      d.place d.number
      (free_apart f place number fleet
      (seats_free (terms_at f.terms place) (meter_in f.places place) (meter_in f'.places place)
      number seats)
      other d at);
}

pub admits_keeps : (f f' : FleetState) (key place number : ℕ) (stream : StreamState) → IsFleet f
    → get f'.clients key
    ≡ Some (record { place = place; number = number; stream = stream; pending = [] })
    → ((other : ℕ) → other ≢ key → get f'.clients other ≡ get f.clients other)
    → PlacesStay f.places place f'.places
    → Seats (terms_at f.terms place) (meter_in f.places place) number (meter_in f'.places place)
    → IsFleet f'
admits_keeps f f' key place number stream fleet at clients stay seats = record {
  is_open = open_at;
  apart = apart_at;
}
  where
    new : ClientState
    new = new_client place number stream

    isolated : Isolated f key f'
    isolated = admits_isolated f f' key place number fleet clients stay seats

    free : session_in f.places place number ≡ None
    free = seats_free (terms_at f.terms place) (meter_in f.places place) (meter_in f'.places place)
        number seats

    at_key : (other : ℕ) (d : ClientState) → get f'.clients other ≡ Some d → other ≡ key
        → d ≡ new_client place number stream
    at_key other d at_d e =
        same_Some d (new_client place number stream)
        (sym at_d ∙ ap (λ (k : ℕ). get f'.clients k) e ∙ at)

    open_at : (other : ℕ) (d : ClientState) → get f'.clients other ≡ Some d
        → session_in f'.places d.place d.number ≢ None
    open_at other d at_d = elim (ℕ_discrete other key) [
      | yes e ↦ subst (λ (x : ClientState). session_in f'.places x.place x.number ≢ None)
          (sym (at_key other d at_d e))
          (seats_open (terms_at f.terms place) (meter_in f.places place)
          (meter_in f'.places place) number seats)
      | no far ↦ others_open f f' key fleet isolated other d far at_d
    ]

    old_at : (other : ℕ) (d : ClientState) → get f'.clients other ≡ Some d → other ≢ key
        → get f.clients other ≡ Some d
    old_at other d at_d far = sym (clients other far) ∙ at_d

    new_apart : (other : ℕ) (c d : ClientState) → c ≡ new_client place number stream
        → get f.clients other ≡ Some d → c.place ≡ d.place → c.number ≡ d.number → ⊥
    new_apart other c d is at_d e e' =
        free_apart f place number fleet free other d at_d
        (sym e ∙ ap (λ (x : ClientState). x.place) is)
        (sym e' ∙ ap (λ (x : ClientState). x.number) is)

    apart_at : (one two : ℕ) (c d : ClientState) → get f'.clients one ≡ Some c
        → get f'.clients two ≡ Some d → c.place ≡ d.place → c.number ≡ d.number → one ≡ two
    apart_at one two c d at_c at_d e e' = elim (ℕ_discrete one key) [
      | yes here ↦ elim (ℕ_discrete two key) [
        | yes there ↦ here ∙ sym there
        | no far ↦ absurd (new_apart two c d (at_key one c at_c here)
            (old_at two d at_d far) e e')
      ]
      | no far ↦ elim (ℕ_discrete two key) [
        | yes there ↦ absurd (new_apart one d c (at_key two d at_d there)
            (old_at one c at_c far) (sym e) (sym e'))
        | no away ↦ fleet.apart one two c d (old_at one c at_c far)
            (old_at two d at_d away) e e'
      ]
    ]

-- ---- no connection

pub unchanged_keeps : (f f' : FleetState) → IsFleet f → f'.places ≡ f.places
    → ((key : ℕ) → get f'.clients key ≡ get f.clients key) → IsFleet f'
unchanged_keeps f f' fleet places clients = record {
  is_open = λ key c at none. fleet.is_open key c (sym (clients key) ∙ at)
      (ap (λ (ps : List (Option MeterState)). session_in ps c.place c.number) (sym places)
      ∙ none);
  apart = λ key other c d at at' e e'. fleet.apart key other c d (sym (clients key) ∙ at)
      (sym (clients other) ∙ at') e e';
}

-- ---- the calls

at_within : {A : Type 0} (xs : List (Option A)) (i : ℕ) (a : A)
    → slice_index_or xs i None ≡ Some a → i < length xs
at_within [] i a e = absurd (none-some a e)
at_within (x ∷ xs) zero a e = omega arith
at_within (x ∷ xs) (suc i) a e =
    let rest = at_within xs i a e in
    omega (arith, rest)

-- a turn of the connection with a key, whose meter is at a place
pub run_facts : (room : ℕ) (terms : FleetTerms) (places : List (Option MeterState))
    (clients : Slab ClientState) (key at : ℕ) (c c' : ClientState) (x y : Option MeterState)
    (turn : Turn)
    → IsFleet (record { terms = terms; places = places; clients = clients })
    → get clients key ≡ Some c → at ≡ c.place → x ≡ slice_index_or places at x
    → TurnsAt room x c turn y c'
    → IsFleet (record {
      terms = terms;
      places = slice_set places at y;
      clients = with_value clients key c';
    })
    × Runs room (record { terms = terms; places = places; clients = clients }) key turn
    (record {
      terms = terms;
      places = slice_set places at y;
      clients = with_value clients key c';
    })
run_facts room terms places clients key at c c' x y turn fleet is same shows turns = (
  runs_keeps room f f' key turn c c' fleet is is' others stay turns',
  record {
    before = c;
    after = c';
    was = is;
    is = is';
    turns = turns';
    isolated = runs_isolated room f f' key turn c c' fleet is others stay turns';
    stay = meters_stay f f' c.place refl stay;
  },
)
  where
    f : FleetState
    f = record { terms = terms; places = places; clients = clients }

    f' : FleetState
    f' = record {
      terms = terms;
      places = slice_set places at y;
      clients = with_value clients key c';
    }

    within : at < length places
    within = within_places places at c.number
        (subst (λ (p : ℕ). session_in places p c.number ≢ None) (sym same)
        (fleet.is_open key c is))

    is' : get (with_value clients key c') key ≡ Some c'
    is' = get_or-set_same clients.slots key (Some c') None (at_within clients.slots key c is)

    others : (other : ℕ) → other ≢ key
        → get (with_value clients key c') other ≡ get clients other
    others other far = get_or-set_other clients.slots key other (Some c') None far

    stay : PlacesStay places c.place (slice_set places at y)
    stay = subst (λ (p : ℕ). PlacesStay places p (slice_set places at y)) same
        (places_set places at y)

    turns' : TurnsAt room (meter_in places c.place) c turn
        (meter_in (slice_set places at y) c.place) c'
    turns' = subst (λ (p : ℕ).
        TurnsAt room (meter_in places p) c turn (meter_in (slice_set places at y) p) c') same
        (turns_in room places at x y c c' turn within shows turns)

-- the end of the connection with a key, whose meter is at a place
pub release_facts : (terms : FleetTerms) (places places' : List (Option MeterState))
    (clients clients' : Slab ClientState) (key at number : ℕ) (c : ClientState)
    → IsFleet (record { terms = terms; places = places; clients = clients })
    → get clients key ≡ Some c → at ≡ c.place → number ≡ c.number
    → Updates clients clients' key None → PlacesStay places at places'
    → Frees (meter_in places at) number (meter_in places' at)
    → IsFleet (record { terms = terms; places = places'; clients = clients' })
    × ((stream : StreamState) → c.stream ≡ stream
    → Releases (record { terms = terms; places = places; clients = clients }) key stream
    (record { terms = terms; places = places'; clients = clients' }))
release_facts terms places places' clients clients' key at number c fleet is same same' updates
    stay frees = (
      releases_keeps f f' key c fleet is updates.changed updates.others stay' frees',
      λ stream left. record {
        client = c;
        left = left;
        was = is;
        gone = updates.changed;
        frees = frees';
        isolated = releases_isolated f f' key c fleet is updates.others stay' frees';
        stay = meters_stay f f' c.place refl stay';
      },
    )
  where
    f : FleetState
    f = record { terms = terms; places = places; clients = clients }

    f' : FleetState
    f' = record { terms = terms; places = places'; clients = clients' }

    stay' : PlacesStay places c.place places'
    stay' = subst (λ (p : ℕ). PlacesStay places p places') same stay

    frees' : Frees (meter_in places c.place) c.number (meter_in places' c.place)
    frees' = subst (λ (n : ℕ). Frees (meter_in places c.place) n (meter_in places' c.place)) same'
        (subst (λ (p : ℕ). Frees (meter_in places p) number (meter_in places' p)) same frees)

-- an admission under a key, to the meter at a place
pub admit_facts : (terms : FleetTerms) (places places' : List (Option MeterState))
    (clients room clients' : Slab ClientState) (key place number : ℕ) (stream : StreamState)
    (c : ClientState)
    → IsFleet (record { terms = terms; places = places; clients = clients })
    → room ≡ record clients { capacity = room.capacity }
    → Seats (terms_at terms place) (meter_in places place) number (meter_in places' place)
    → PlacesStay places place places' → get room key ≡ None
    → Updates room clients' key (Some c) → c ≡ new_client place number stream
    → IsFleet (record { terms = terms; places = places'; clients = clients' })
    × Admits (record { terms = terms; places = places; clients = clients }) place stream key
    (record { terms = terms; places = places'; clients = clients' })
admit_facts terms places places' clients room clients' key place number stream c fleet kept seats
    stay vacant updates is = (
      admits_keeps f f' key place number stream fleet at others stay seats,
      record {
        number = number;
        vacant = sym (same key) ∙ vacant;
        client = at;
        seats = seats;
        isolated = admits_isolated f f' key place number fleet others stay seats;
        stay = meters_stay f f' place refl stay;
      },
    )
  where
    f : FleetState
    f = record { terms = terms; places = places; clients = clients }

    f' : FleetState
    f' = record { terms = terms; places = places'; clients = clients' }

    same : (k : ℕ) → get room k ≡ get clients k
    same k = ap (λ (s : Slab ClientState). get s k) kept

    at : get clients' key
        ≡ Some (record { place = place; number = number; stream = stream; pending = [] })
    at = updates.changed ∙ ap Some is

    others : (other : ℕ) → other ≢ key → get clients' other ≡ get clients other
    others other far = updates.others other far ∙ same other

-- a refusal
pub refuse_facts : (f f' : FleetState) (number : ℕ) (stream : StreamState) (why : Refusal)
    → SeatsIn f.terms f.places number (Err why) f'.places → f'.terms ≡ f.terms
    → ((key : ℕ) → get f'.clients key ≡ get f.clients key)
    → AdmitsBy f number stream (Err why) f'
refuse_facts f f' number stream NoMeter seats terms clients = (
  seats.0,
  record { terms = terms; places = seats.1; clients = clients },
)
refuse_facts f f' number stream Full seats terms clients = (
  seats.0,
  record { terms = terms; places = seats.1; clients = clients },
)
refuse_facts f f' number stream refusal.Memory seats terms clients =
    record { terms = terms; places = seats; clients = clients }

pub same_values : (s s' : Slab ClientState) → s' ≡ record s { capacity = s'.capacity }
    → (key : ℕ) → get s' key ≡ get s key
same_values s s' kept key = ap (λ (t : Slab ClientState). get t key) kept

-- ---- an event

-- the meter at a place was given an event
pub give_facts : (terms : FleetTerms) (places places' : List (Option MeterState))
    (clients : Slab ClientState) (place : ℕ) (event : Event) (reply : Reply)
    → IsFleet (record { terms = terms; places = places; clients = clients })
    → Gives (terms_at terms place) (meter_in places place) event reply (meter_in places' place)
    → PlacesStay places place places'
    → IsFleet (record { terms = terms; places = places'; clients = clients })
    × Applies (record { terms = terms; places = places; clients = clients }) place event reply
    (record { terms = terms; places = places'; clients = clients })
give_facts terms places places' clients place event reply fleet gives stay = (
  record {
    is_open = λ key c at none. fleet.is_open key c at (sym (sessions c.place c.number) ∙ none);
    apart = fleet.apart;
  },
  record {
    gives = gives;
    clients = refl;
    sessions = sessions;
    stay = meters_stay f f' place refl stay;
  },
)
  where
    f : FleetState
    f = record { terms = terms; places = places; clients = clients }

    f' : FleetState
    f' = record { terms = terms; places = places'; clients = clients }

    sessions : (p n : ℕ) → session_in places' p n ≡ session_in places p n
    sessions p n = elim (ℕ_discrete p place) [
      | yes e ↦ subst (λ (q : ℕ). session_in places' q n ≡ session_in places q n) (sym e)
          (gives_sessions (terms_at terms place) (meter_in places place) (meter_in places' place)
          event reply n gives)
      | no far ↦ ap (λ (m : Option MeterState). session_of m n) (stay.places p far)
    ]

-- the result of giving an event to the meter with a number
pub give_by : (terms : FleetTerms) (places places' : List (Option MeterState))
    (clients : Slab ClientState) (number : ℕ) (event : Event) (result : Result Reply AccessFault)
    → IsFleet (record { terms = terms; places = places; clients = clients })
    → GivesIn terms places number event result places'
    → IsFleet (record { terms = terms; places = places'; clients = clients })
    × GivesBy (record { terms = terms; places = places; clients = clients }) number event result
    (record { terms = terms; places = places'; clients = clients })
give_by terms places places' clients number event (Ok reply) fleet gives =
    let facts = give_facts terms places places' clients gives.0 event reply fleet gives.2 gives.3 in
    (facts.0, (gives.0, gives.1, facts.1))
give_by terms places places' clients number event (Err access.NoMeter) fleet gives = (
  subst (λ (ps : List (Option MeterState)).
      IsFleet (record { terms = terms; places = ps; clients = clients })) (sym gives.1) fleet,
  (
    gives.0,
    ap (λ (ps : List (Option MeterState)).
        record { terms = terms; places = ps; clients = clients }) gives.1,
  ),
)
give_by terms places places' clients number event (Err access.Memory) fleet gives = (
  subst (λ (ps : List (Option MeterState)).
      IsFleet (record { terms = terms; places = ps; clients = clients })) (sym gives) fleet,
  ap (λ (ps : List (Option MeterState)).
      record { terms = terms; places = ps; clients = clients }) gives,
)
