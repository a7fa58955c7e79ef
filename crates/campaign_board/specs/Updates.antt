-- What a call on one of many places does.
--     OpensPlace .. EndsAt  the effect of the calls on the place with a number
--     ClearsMarked          the places with marks may give their requests
--     is_waiting ..         what is known of a place
--     AreSettled            all places have their outcomes
use Rattle.std.specs.Prelude.{◌≡◌, ◌⊎◌, ◌<◌, ◌&&◌, ℕ, Bool, true, false, if◌then◌else◌, List, length, slice_get, slice_set, is_some, is_none, Option, Some, None, Result, Ok}
use Rattle.client_core.specs.declared.job.Outcome.TheVariants.{Unknown}
use Rattle.campaign_ledger.specs.declared.entry.LedgerEntry.{LedgerEntry}
use Rattle.campaign_ledger.specs.declared.entry.LedgerEntry.TheVariants.{NotSent, MaybeSent, Came}
use Rattle.campaign_ledger.specs.Entries.{entry_at}
use Rattle.campaign_ledger.specs.Groups.{has}
use Rattle.campaign_board.specs.declared.place.Ending.{Ending}
use Rattle.campaign_board.specs.declared.talk.Talk.{Talk}
use Rattle.campaign_board.specs.Talks.{PlaceState, has_talk, HandsText, TakesBytes, SaysDue, EndsPlace, cleared_place}

-- whether nothing was done, since there is no such place
pub record IsAbsent (old : List PlaceState) (at : ℕ) (new : List PlaceState) : Type 0 where
  pub absent : slice_get old at ≡ None
  pub same : new ≡ old

-- whether a place was replaced by another one, and all others stay
pub record Replaces (old : List PlaceState) (at : ℕ) (place place' : PlaceState)
    (new : List PlaceState) : Type 0 where
  pub was : slice_get old at ≡ Some place
  pub new_is : new ≡ slice_set old at place'

-- whether a place that waited has this conversation now
pub record OpensPlace (old : List PlaceState) (at : ℕ) (talk : Talk) (new : List PlaceState)
    : Type 0 where
  pub place : PlaceState
  pub no_talk : place.talk ≡ None
  pub no_ending : place.ending ≡ None
  pub replaces : Replaces old at place (record { talk = Some talk; ending = None }) new

pub record HandsThere (old : List PlaceState) (at : ℕ) (result : Option (List ℕ))
    (new : List PlaceState) : Type 0 where
  pub place : PlaceState
  pub place' : PlaceState
  pub hands : HandsText place result place'
  pub replaces : Replaces old at place place' new

-- whether the place at an index gave a message, if there is one
abbrev pub HandsAt : List PlaceState → ℕ → Option (List ℕ) → List PlaceState → Type 0
HandsAt old at result new = (IsAbsent old at new × (result ≡ None)) ⊎ HandsThere old at result new

pub record TakesThere {E : Type 0} (old : List PlaceState) (at : ℕ) (bytes : List ℕ)
    (result : Result Bool E) (new : List PlaceState) : Type 0 where
  pub place : PlaceState
  pub place' : PlaceState
  pub takes : TakesBytes place bytes result place'
  pub replaces : Replaces old at place place' new

-- whether the place at an index processed bytes, if there is one
abbrev pub TakesAt : {E : Type 0} → List PlaceState → ℕ → List ℕ → Result Bool E
    → List PlaceState → Type 0
TakesAt old at bytes result new = (IsAbsent old at new × (result ≡ Ok false))
    ⊎ TakesThere old at bytes result new

pub record EndsThere (old : List PlaceState) (at : ℕ) (result : Option Ending)
    (new : List PlaceState) : Type 0 where
  pub place : PlaceState
  pub place' : PlaceState
  pub ends : EndsPlace place result place'
  pub replaces : Replaces old at place place' new

-- whether the place at an index was ended, if there is one
abbrev pub EndsAt : List PlaceState → ℕ → Option Ending → List PlaceState → Type 0
EndsAt old at result new = (IsAbsent old at new × (result ≡ None)) ⊎ EndsThere old at result new

-- whether there is such a place, whose request is the next message and waits for its mark
pub record IsDueAt (places : List PlaceState) (at : ℕ) : Type 0 where
  pub place : PlaceState
  pub is : slice_get places at ≡ Some place
  pub says : SaysDue place true

-- whether each of these marks is that of a place whose request waits for it
abbrev pub AreDueAt : List PlaceState → List ℕ → Type 0
AreDueAt places marks = (at : ℕ) → has at marks ≡ true → IsDueAt places at

-- the place after these marks: if it has one, its request may be given
abbrev pub place_after : List ℕ → ℕ → PlaceState → PlaceState
place_after marks at place = if has at marks then cleared_place place else place

-- whether the places with these marks may give their requests, and all others stay
pub record ClearsMarked (marks : List ℕ) (old new : List PlaceState) : Type 0 where
  pub count : length new ≡ length old
  pub each : (at : ℕ) (place' : PlaceState) → slice_get new at ≡ Some place'
      → (place : PlaceState) × (slice_get old at ≡ Some place)
      × (place' ≡ place_after marks at place)

-- whether there is such a place, and its job waits
abbrev pub is_waiting : Option PlaceState → Bool
is_waiting None = false
is_waiting (Some place) = is_none place.talk && is_none place.ending

-- whether there is such a place, and its connection is open
abbrev pub is_talking : Option PlaceState → Bool
is_talking None = false
is_talking (Some place) = has_talk place.talk

-- whether there is such a place, and its connection is over
abbrev pub is_ended : Option PlaceState → Bool
is_ended None = false
is_ended (Some place) = is_some place.ending

-- the end of a place, if there is such a place and its connection is over
abbrev pub ending_in : Option PlaceState → Option Ending
ending_in None = None
ending_in (Some place) = place.ending

-- whether the command of a job was not sent, by the entry of its ledger
abbrev pub is_not_sent : LedgerEntry → Bool
is_not_sent NotSent = true
is_not_sent MaybeSent = false
is_not_sent (Came outcome) = false

-- the end of a place, by the entry of its ledger, if there is such a place and it has one
abbrev pub ending_by : LedgerEntry → Option PlaceState → Option Ending
ending_by NotSent place = ending_in place
ending_by MaybeSent place = Some (record { outcome = Unknown; was_asked = true })
ending_by (Came outcome) place = Some (record { outcome = outcome; was_asked = true })

-- whether a job must wait for no other one, or the connection of that one is over
abbrev pub is_over_at : List PlaceState → Option ℕ → Bool
is_over_at places None = true
is_over_at places (Some at) = is_ended (slice_get places at)

-- whether there is such a place, and its job must not wait for another one
abbrev pub is_ready : List PlaceState → Option (Option ℕ) → Bool
is_ready places None = false
is_ready places (Some before) = is_over_at places before

-- whether a place has no outcome to be waited for: its connection is over, or its command may have
-- been sent before
abbrev pub is_settled : LedgerEntry → Option PlaceState → Bool
is_settled NotSent place = is_ended place
is_settled MaybeSent place = true
is_settled (Came outcome) place = true

-- whether no place of these has an outcome to be waited for
abbrev pub AreSettled : List LedgerEntry → List PlaceState → Type 0
AreSettled found places = (at : ℕ) → at < length places
    → is_settled (entry_at found at) (slice_get places at) ≡ true
