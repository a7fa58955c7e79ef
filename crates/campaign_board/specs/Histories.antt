-- The histories that a campaign may have: steps of which the newest is first.
--     Terms          the jobs of the campaign, their passwords, what a ledger had of them, and the
--                    number of connections
--     open_count     the number of open connections
--     outcomes_since    the outcomes that are not committed yet
--     Permits        a step may follow these
--     IsLegal        each step may follow those before it
--     texts_of       the messages given on the connection of a place, in order
--     AreSafe        what follows from that
use Rattle.std.specs.Prelude.{◌≡◌, ◌<◌, ◌≤◌, ◌-◌, ◌&&◌, ◌==◌, ℕ, zero, suc, Bool, true, false, not, if◌then◌else◌, List, [], ◌∷◌, ◌++◌, take, ⊤}
use Rattle.client_core.specs.declared.job.Job.{Job}
use Rattle.client_core.specs.declared.job.Outcome.{Outcome}
use Rattle.client_core.specs.declared.job.Verb.{Verb}
use Rattle.client_core.specs.Outcomes.{outcome_of}
use Rattle.client_core.specs.Texts.{aarq_frame, request_frame, release_frame}
use Rattle.campaign_ledger.specs.declared.book.PlaceOutcome.{PlaceOutcome}
use Rattle.campaign_ledger.specs.declared.entry.LedgerEntry.{LedgerEntry}
use Rattle.campaign_ledger.specs.declared.entry.LedgerEntry.TheVariants.{NotSent}
use Rattle.campaign_ledger.specs.Groups.{has, has_outcome}
use Rattle.campaign_board.specs.Lives.{Happening, began, received, lost, handed, ended, committed, Life, life_of}
use Rattle.campaign_board.specs.Talks.{is_question, has_request, IsOpen, IsDue, MayGive}

-- A campaign: the number of its jobs; the job and the password of each place, and the entry that
-- its ledger had before; and the maximum number of open connections.
pub record Terms : Type 0 where
  pub count : ℕ
  pub job : ℕ → Job
  pub password : ℕ → List ℕ
  pub found : ℕ → LedgerEntry
  pub limit : ℕ

-- the number of connections that were opened and are not closed
abbrev pub open_count : List Happening → ℕ
open_count [] = 0
open_count (began at ∷ earlier) = suc (open_count earlier)
open_count (received at bytes ∷ earlier) = open_count earlier
open_count (lost at bytes ∷ earlier) = open_count earlier
open_count (handed at text ∷ earlier) = open_count earlier
open_count (ended at outcome ∷ earlier) = open_count earlier - 1
open_count (committed marks outcomes ∷ earlier) = open_count earlier

-- the outcomes with one more, if the request of its place was given
abbrev pub with_outcome : Bool → ℕ → Outcome → List PlaceOutcome → List PlaceOutcome
with_outcome asked at outcome outcomes =
    if asked then outcomes ++ record { place = at; outcome = outcome } ∷ [] else outcomes

-- the outcomes of places whose request was given, since the last commit, the oldest first
abbrev pub outcomes_since : List Happening → List PlaceOutcome
outcomes_since [] = []
outcomes_since (began at ∷ earlier) = outcomes_since earlier
outcomes_since (received at bytes ∷ earlier) = outcomes_since earlier
outcomes_since (lost at bytes ∷ earlier) = outcomes_since earlier
outcomes_since (handed at text ∷ earlier) = outcomes_since earlier
outcomes_since (ended at outcome ∷ earlier) =
    with_outcome (has_request (life_of at earlier).given) at outcome (outcomes_since earlier)
outcomes_since (committed marks outcomes ∷ earlier) = []

-- whether the job of a place may begin: its command was not sent before, it has not begun, a
-- connection is free, and each earlier job of its address that had to be run is over
pub record MayBegin (terms : Terms) (earlier : List Happening) (at : ℕ) : Type 0 where
  pub within : at < terms.count
  pub not_sent : terms.found at ≡ NotSent
  pub is_new : (life_of at earlier).has_begun ≡ false
  pub room : open_count earlier < terms.limit
  pub alone : (other : ℕ) → other < at → terms.found other ≡ NotSent
      → (terms.job other).address ≡ (terms.job at).address
      → (life_of other earlier).is_over ≡ true

-- whether the outcome is that of the bytes that came on the connection of a place
abbrev pub IsOutcomeAt : Terms → List Happening → ℕ → Outcome → Type 0
IsOutcomeAt terms earlier at outcome =
    outcome ≡ outcome_of (terms.job at).verb (life_of at earlier).fed

-- whether each of these marks is that of a place whose request waits for it
abbrev pub AreMarks : Terms → List Happening → List ℕ → Type 0
AreMarks terms earlier marks = (at : ℕ) → has at marks ≡ true
    → IsDue (terms.job at).verb (life_of at earlier)

-- whether a step may follow these steps
abbrev pub Permits : Terms → List Happening → Happening → Type 0
Permits terms earlier (began at) = MayBegin terms earlier at
Permits terms earlier (received at bytes) = IsOpen (life_of at earlier)
Permits terms earlier (lost at bytes) = IsOpen (life_of at earlier)
Permits terms earlier (handed at text) = IsOpen (life_of at earlier)
    × MayGive (terms.job at).verb (terms.password at) (life_of at earlier) text
Permits terms earlier (ended at outcome) = IsOpen (life_of at earlier)
    × IsOutcomeAt terms earlier at outcome
Permits terms earlier (committed marks outcomes) = AreMarks terms earlier marks
    × (outcomes ≡ outcomes_since earlier)

-- whether each step may follow those before it
abbrev pub IsLegal : Terms → List Happening → Type 0
IsLegal terms [] = ⊤
IsLegal terms (step ∷ earlier) = Permits terms earlier step × IsLegal terms earlier

-- ---- what follows

-- the three messages of a job: the AARQ, the request and the release
abbrev pub three_texts : Verb → List ℕ → List (List ℕ)
three_texts verb password =
    aarq_frame password ∷ request_frame verb ∷ release_frame ∷ []

-- the messages given on the connection of a place, in order
abbrev pub texts_of : ℕ → List Happening → List (List ℕ)
texts_of place [] = []
texts_of place (began at ∷ earlier) = texts_of place earlier
texts_of place (received at bytes ∷ earlier) = texts_of place earlier
texts_of place (lost at bytes ∷ earlier) = texts_of place earlier
texts_of place (handed at text ∷ earlier) =
    if at == place then texts_of place earlier ++ text ∷ [] else texts_of place earlier
texts_of place (ended at outcome ∷ earlier) = texts_of place earlier
texts_of place (committed marks outcomes ∷ earlier) = texts_of place earlier

-- the number of connections of a place
abbrev pub connections_of : ℕ → List Happening → ℕ
connections_of place [] = 0
connections_of place (began at ∷ earlier) =
    if at == place then suc (connections_of place earlier) else connections_of place earlier
connections_of place (received at bytes ∷ earlier) = connections_of place earlier
connections_of place (lost at bytes ∷ earlier) = connections_of place earlier
connections_of place (handed at text ∷ earlier) = connections_of place earlier
connections_of place (ended at outcome ∷ earlier) = connections_of place earlier
connections_of place (committed marks outcomes ∷ earlier) = connections_of place earlier

-- whether the connection of a place is open
abbrev pub is_open : Life → Bool
is_open life = life.has_begun && not life.is_over

-- the number of the first places whose connections are open
abbrev pub open_below : ℕ → List Happening → ℕ
open_below zero steps = 0
open_below (suc n) steps =
    if is_open (life_of n steps) then suc (open_below n steps) else open_below n steps

-- What holds of each legal history, so at each moment of a campaign.
pub record AreSafe (terms : Terms) (steps : List Happening) : Type 0 where
  -- the number of open connections is the number of the places that have one
  pub counted : open_count steps ≡ open_below terms.count steps
  -- no more than the maximum number of connections are open
  pub room : open_count steps ≤ terms.limit
  -- a place has at most one connection in all, and none if its command may have been sent before
  pub once : (place : ℕ) → connections_of place steps ≤ 1
  pub not_sent : (place : ℕ) → 1 ≤ connections_of place steps → terms.found place ≡ NotSent
  -- the messages of a place are the first ones of AARQ, request and release
  pub texts : (place : ℕ) → texts_of place steps
      ≡ take (life_of place steps).given
      (three_texts (terms.job place).verb (terms.password place))
  -- if the request of a switching job was given, its mark had been committed
  pub marked : (place : ℕ) → is_question (terms.job place).verb ≡ false
      → 2 ≤ (life_of place steps).given → (life_of place steps).is_marked ≡ true
  -- a place is marked only if it has a connection, its job switches, and the AARQ was given
  pub reached : (place : ℕ) → (life_of place steps).is_marked ≡ true
      → ((life_of place steps).has_begun ≡ true) × (is_question (terms.job place).verb ≡ false)
      × (1 ≤ (life_of place steps).given)
  -- a job does not begin before the earlier ones of its address are over that had to be run
  pub alone : (place other : ℕ) → other < place → terms.found other ≡ NotSent
      → (terms.job other).address ≡ (terms.job place).address
      → (life_of place steps).has_begun ≡ true → (life_of other steps).is_over ≡ true
  -- the outcomes that are to be committed are those of all bytes of places that are over
  pub outcomes : (place : ℕ) (outcome : Outcome) → has_outcome place outcome (outcomes_since steps)
      → ((life_of place steps).is_over ≡ true) × IsOutcomeAt terms steps place outcome
