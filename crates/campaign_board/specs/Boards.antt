-- A board, by the steps of its campaign.
--     BoardState     the view that contracts have of a board
--     AreTerms       a campaign has these jobs, entries and limit
--     IsBoard        a board after these steps
--     ending_at      the end of a place
--     KeepsBook      the marks of a book remain
--     Begins ..      the calls of a board, after any steps
use Rattle.std.specs.Prelude.{◌≡◌, ◌⊎◌, ◌<◌, ℕ, Bool, true, false, if◌then◌else◌, List, [], ◌∷◌, length, slice_get, slice_index_or, Option, Some, None, Result, Ok, Err}
use Rattle.client_core.specs.declared.job.Job.{Job}
use Rattle.client_core.specs.declared.job.Outcome.{Outcome}
use Rattle.client_core.specs.declared.job.Outcome.TheVariants.{Unknown}
use Rattle.client_core.specs.declared.job.Verb.{Verb}
use Rattle.client_core.specs.Outcomes.{outcome_of}
use Rattle.campaign_ledger.specs.declared.book.PlaceOutcome.{PlaceOutcome}
use Rattle.campaign_ledger.specs.declared.entry.LedgerEntry.{LedgerEntry}
use Rattle.campaign_ledger.specs.declared.entry.LedgerEntry.TheVariants.{NotSent, MaybeSent, Came}
use Rattle.campaign_ledger.specs.Entries.{entry_at}
use Rattle.campaign_board.specs.declared.place.Ending.{Ending}
use Rattle.campaign_board.specs.Lives.{Happening, began, received, lost, handed, ended, committed, Life, life_of}
use Rattle.campaign_board.specs.Talks.{PlaceState, has_request, IsOpen, IsPlace, MustWait}
use Rattle.campaign_board.specs.Updates.{is_talking}
use Rattle.campaign_board.specs.Histories.{Terms, open_count, outcomes_since, MayBegin, IsLegal}

-- A board: its book; its places, the entries that the ledger had of them, and for each the last
-- earlier job of its address that has to be run; the number of open connections and its maximum;
-- and the outcomes that are not committed yet.
pub record BoardState (B : Type 0) : Type 0 where
  pub book : B
  pub places : List PlaceState
  pub found : List LedgerEntry
  pub before : List (Option ℕ)
  pub busy : ℕ
  pub limit : ℕ
  pub outcomes : List PlaceOutcome

-- whether a campaign has these jobs, found entries and maximum number of connections
pub record AreTerms (terms : Terms) (jobs : List Job) (found : List LedgerEntry) (limit : ℕ)
    : Type 0 where
  pub count_is : terms.count ≡ length jobs
  pub jobs_are : (at : ℕ) (job : Job) → at < length jobs
      → terms.job at ≡ slice_index_or jobs at job
  pub found_are : (at : ℕ) → terms.found at ≡ entry_at found at
  pub limit_is : terms.limit ≡ limit

-- whether this is a job that has to be run, before this bound, and has this address
pub record IsEarlier (terms : Terms) (address : List ℕ) (bound other : ℕ) : Type 0 where
  pub earlier : other < bound
  pub not_sent : terms.found other ≡ NotSent
  pub same : (terms.job other).address ≡ address

-- whether this is the last of these jobs, or there is none
abbrev pub IsLast : Terms → List ℕ → ℕ → Option ℕ → Type 0
IsLast terms address bound None = (other : ℕ) → IsEarlier terms address bound other → ⊥
IsLast terms address bound (Some last) = IsEarlier terms address bound last
    × ((other : ℕ) → IsEarlier terms address bound other → (other ≡ last) ⊎ (other < last))

-- whether each of these is the last earlier job that has to be run of its place's address
abbrev pub AreBefore : Terms → List (Option ℕ) → Type 0
AreBefore terms before = (at : ℕ) (last : Option ℕ) → slice_get before at ≡ Some last
    → IsLast terms (terms.job at).address at last

-- whether these are the places of a campaign after these steps
abbrev pub ArePlaces : Terms → List Happening → List PlaceState → Type 0
ArePlaces terms steps places = (at : ℕ) (place : PlaceState) → slice_get places at ≡ Some place
    → IsPlace (terms.job at).verb (terms.password at) (life_of at steps) place

-- the end of a life
abbrev pub ending_of : Verb → Life → Ending
ending_of verb life = record {
  outcome = outcome_of verb life.fed;
  was_asked = has_request life.given;
}

-- the end of a place, by the entry found and its life
abbrev pub ending_at : LedgerEntry → Verb → Life → Option Ending
ending_at NotSent verb life = if life.is_over then Some (ending_of verb life) else None
ending_at MaybeSent verb life = Some (record { outcome = Unknown; was_asked = true })
ending_at (Came outcome) verb life = Some (record { outcome = outcome; was_asked = true })

-- whether each job that has to be run is over
abbrev pub HaveOutcomes : Terms → List Happening → Type 0
HaveOutcomes terms steps = (at : ℕ) → at < terms.count → terms.found at ≡ NotSent
    → (life_of at steps).is_over ≡ true

module _ {B : Type 0} (is_honest : B → Type 0) (is_marked : B → ℕ → Type 0) where
  -- whether a board is that of a campaign after these steps, the newest first
  pub record IsBoard (terms : Terms) (steps : List Happening) (board : BoardState B) : Type 0 where
    pub legal : IsLegal terms steps
    pub count : length board.places ≡ terms.count
    pub places : ArePlaces terms steps board.places
    pub found : (at : ℕ) → terms.found at ≡ entry_at board.found at
    pub marked : is_honest board.book → (at : ℕ) → (life_of at steps).is_marked ≡ true
        → is_marked board.book at
    pub busy : board.busy ≡ open_count steps
    pub limit : board.limit ≡ terms.limit
    pub before : AreBefore terms board.before
    pub before_count : length board.before ≡ terms.count
    pub outcomes : board.outcomes ≡ outcomes_since steps

  -- whether all marks of a book remain, if the later one is honest; the earlier one is honest then
  pub record KeepsBook (old new : B) : Type 0 where
    pub honest : is_honest new → is_honest old
    pub marks : is_honest new → (at : ℕ) → is_marked old at → is_marked new at

  -- whether this is the end of a place: by the entry found, or that of its life once its connection
  -- is over
  pub record TellsEnding (board : BoardState B) (at : ℕ) (result : Option Ending) : Type 0 where
    pub told : (terms : Terms) (steps : List Happening) → IsBoard terms steps board
        → at < terms.count
        → result ≡ ending_at (terms.found at) (terms.job at).verb (life_of at steps)

  -- whether each job of a board that has to be run is over
  pub record IsSettled (board : BoardState B) : Type 0 where
    pub settled : (terms : Terms) (steps : List Happening) → IsBoard terms steps board
        → HaveOutcomes terms steps

  -- whether a board is new: its campaign has no steps, whatever the passwords are
  pub record IsNewBoard (jobs : List Job) (found : List LedgerEntry) (limit : ℕ)
      (board : BoardState B) : Type 0 where
    pub is_new : (terms : Terms) → AreTerms terms jobs found limit → IsBoard terms [] board

  -- whether a board that was asked to begin a job began it, or has not changed; it did not begin a
  -- job only if that may not begin
  abbrev pub BeginsIn : {E : Type 0} → Terms → List Happening → ℕ → Result Bool E → BoardState B
      → Type 0
  BeginsIn terms steps at (Ok true) new = IsBoard terms (began at ∷ steps) new
  BeginsIn terms steps at (Ok false) new = IsBoard terms steps new × (MayBegin terms steps at → ⊥)
  BeginsIn terms steps at (Err e) new = IsBoard terms steps new

  pub record Begins {E : Type 0} (old : BoardState B) (at : ℕ) (job : Job) (password : List ℕ)
      (result : Result Bool E) (new : BoardState B) : Type 0 where
    pub begins : (terms : Terms) (steps : List Happening) → IsBoard terms steps old
        → terms.job at ≡ job → terms.password at ≡ password → BeginsIn terms steps at result new

  -- whether a board gave a message that may be sent now; or none, since there is none, the request
  -- waits for its mark, or the place is not open
  abbrev pub GivesIn : Terms → List Happening → ℕ → Option (List ℕ) → BoardState B → Type 0
  GivesIn terms steps at (Some text) new = IsBoard terms (handed at text ∷ steps) new
  GivesIn terms steps at None new = IsBoard terms steps new × (at < terms.count
      → IsOpen (life_of at steps)
      → MustWait (terms.job at).verb (terms.password at) (life_of at steps))

  pub record Gives (old : BoardState B) (at : ℕ) (result : Option (List ℕ)) (new : BoardState B)
      : Type 0 where
    pub gives : (terms : Terms) (steps : List Happening) → IsBoard terms steps old
        → GivesIn terms steps at result new

  -- whether a board processed bytes of an open place; out of memory, they may be lost
  abbrev pub HearsIn : {A E : Type 0} → Terms → List Happening → ℕ → List ℕ → Result A E
      → BoardState B → Type 0
  HearsIn terms steps at bytes (Ok x) new = IsBoard terms (received at bytes ∷ steps) new
  HearsIn terms steps at bytes (Err e) new =
      IsBoard terms (received at bytes ∷ steps) new ⊎ IsBoard terms (lost at bytes ∷ steps) new

  pub record Hears {A E : Type 0} (old : BoardState B) (at : ℕ) (bytes : List ℕ)
      (result : Result A E) (new : BoardState B) : Type 0 where
    pub hears : (terms : Terms) (steps : List Happening) → IsBoard terms steps old
        → is_talking (slice_get old.places at) ≡ true → HearsIn terms steps at bytes result new

  -- whether the conversation of a place is over, with the outcome of its bytes; or the place was
  -- not open
  abbrev pub EndsIn : Terms → List Happening → ℕ → Option Outcome → BoardState B → Type 0
  EndsIn terms steps at (Some outcome) new = IsBoard terms (ended at outcome ∷ steps) new
  EndsIn terms steps at None new = IsBoard terms steps new
      × (at < terms.count → IsOpen (life_of at steps) → ⊥)

  pub record Ends (old : BoardState B) (at : ℕ) (outcome : Option Outcome) (new : BoardState B)
      : Type 0 where
    pub ends : (terms : Terms) (steps : List Happening) → IsBoard terms steps old
        → EndsIn terms steps at outcome new

  -- whether these marks and all outcomes that waited were committed together, or none of them
  abbrev pub CommitsIn : {A E : Type 0} → Terms → List Happening → List ℕ → List PlaceOutcome
      → Result A E → BoardState B → Type 0
  CommitsIn terms steps marks outcomes (Ok x) new =
      IsBoard terms (committed marks outcomes ∷ steps) new
  CommitsIn terms steps marks outcomes (Err e) new = IsBoard terms steps new

  pub record Commits {A E : Type 0} (old : BoardState B) (marks : List ℕ) (result : Result A E)
      (new : BoardState B) : Type 0 where
    pub commits : (terms : Terms) (steps : List Happening) → IsBoard terms steps old
        → CommitsIn terms steps marks old.outcomes result new
