-- A conversation and a place, by what has happened there.
--     may_command    whether the request of a verb may be given
--     MayGive        a message may be given
--     IsDue          the request is the next message, and waits for its mark
--     IsTalk         a conversation that has this life
--     PlaceState     the view that contracts have of a place
--     IsPlace        a place that has this life
use Rattle.std.specs.Prelude.{◌≡◌, ◌⊎◌, ◌&&◌, ◌||◌, ℕ, zero, suc, Bool, true, false, not, List, [], ◌++◌, Option, Some, None, Result, Ok, Err}
use Rattle.client_core.specs.declared.job.Outcome.{Outcome}
use Rattle.client_core.specs.declared.job.Verb.{Verb}
use Rattle.client_core.specs.declared.job.Verb.TheVariants.{Disconnect, Reconnect, ReadState}
use Rattle.client_core.specs.Outcomes.{progress_of, outcome_of, due_frames}
use Rattle.client_core.specs.Standing.{Stands, is_second}
use Rattle.client_core.specs.Texts.{text_at}
use Rattle.campaign_board.specs.declared.place.Ending.{Ending}
use Rattle.campaign_board.specs.declared.talk.Talk.{Talk}
use Rattle.campaign_board.specs.Lives.{Life}

-- whether the verb asks for a state, and switches nothing
abbrev pub is_question : Verb → Bool
is_question Disconnect = false
is_question Reconnect = false
is_question ReadState = true

-- whether the request of a verb may be given: a switching one only if the place is marked
abbrev pub may_command : Verb → Bool → Bool
may_command verb marked = is_question verb || marked

-- whether the request is among this number of first messages: it is the second
abbrev pub has_request : ℕ → Bool
has_request zero = false
has_request (suc zero) = false
has_request (suc (suc n)) = true

-- whether the request is the next message: the association is open, and the AARQ alone was given
abbrev pub is_request_next : Verb → Life → Bool
is_request_next verb life = is_second life.given && (progress_of verb life.fed).accepted

-- whether the job began and is not over
pub record IsOpen (life : Life) : Type 0 where
  pub has_begun : life.has_begun ≡ true
  pub is_not_over : life.is_over ≡ false

-- whether this message may be given next: it is the next one due by the bytes that came, and if it
-- is the request, it may be given
pub record MayGive (verb : Verb) (password : List ℕ) (life : Life) (text : List ℕ) : Type 0 where
  pub text_is : text_at (due_frames verb password (progress_of verb life.fed)) life.given
      ≡ Some text
  pub allowed : life.given ≡ 1 → may_command verb life.is_marked ≡ true

-- whether the request of an open place is the next message, and may not be given before its mark
pub record IsDue (verb : Verb) (life : Life) : Type 0 where
  pub is_open : IsOpen life
  pub is_next : is_request_next verb life ≡ true
  pub waits : may_command verb life.is_marked ≡ false

-- whether no message may be given: none is due, or the request waits for its mark
abbrev pub MustWait : Verb → List ℕ → Life → Type 0
MustWait verb password life =
    (text_at (due_frames verb password (progress_of verb life.fed)) life.given ≡ None)
    ⊎ ((is_request_next verb life ≡ true) × (may_command verb life.is_marked ≡ false))

-- ---- a conversation

-- whether a conversation has this life
pub record IsTalk (verb : Verb) (password : List ℕ) (life : Life) (talk : Talk) : Type 0 where
  pub stands : Stands verb password life.fed life.given false talk.client
  pub cleared : talk.is_cleared ≡ may_command verb life.is_marked
  pub asked : talk.has_asked ≡ has_request life.given

-- whether a new conversation is one in any life in which nothing has come, was given or is marked
pub record StartsTalk (verb : Verb) (password : List ℕ) (talk : Talk) : Type 0 where
  pub is_talk : (life : Life) → life.fed ≡ [] → life.given ≡ 0 → life.is_marked ≡ false
      → IsTalk verb password life talk

-- whether a conversation of this life gave a message that may be given, or none
abbrev pub GivesIn : Verb → List ℕ → Life → Option (List ℕ) → Talk → Type 0
GivesIn verb password life None new = MustWait verb password life × IsTalk verb password life new
GivesIn verb password life (Some text) new = MayGive verb password life text
    × IsTalk verb password (record life { given = suc life.given }) new

-- whether the next message was given that may be given, or none if there is none
pub record GivesText (old : Talk) (result : Option (List ℕ)) (new : Talk) : Type 0 where
  pub gives : (verb : Verb) (password : List ℕ) (life : Life) → IsTalk verb password life old
      → GivesIn verb password life result new

-- the life after bytes were processed, or, out of memory, as it was
abbrev pub fed_life : {A E : Type 0} → List ℕ → Result A E → Life → Life
fed_life bytes (Ok x) life = record life { fed = life.fed ++ bytes }
fed_life bytes (Err e) life = life

-- whether bytes were processed, or, out of memory, nothing has changed
pub record Receives {A E : Type 0} (old : Talk) (bytes : List ℕ) (result : Result A E) (new : Talk)
    : Type 0 where
  pub receives : (verb : Verb) (password : List ℕ) (life : Life) → IsTalk verb password life old
      → IsTalk verb password (fed_life bytes result life) new

-- whether this is the outcome of the bytes that came
pub record GivesUp (old : Talk) (outcome : Outcome) : Type 0 where
  pub outcome_is : (verb : Verb) (password : List ℕ) (life : Life) → IsTalk verb password life old
      → outcome ≡ outcome_of verb life.fed

-- whether this says if the request is the next message and waits for its mark
pub record TellsDue (talk : Talk) (result : Bool) : Type 0 where
  pub told : (verb : Verb) (password : List ℕ) (life : Life) → IsTalk verb password life talk
      → result ≡ (not (may_command verb life.is_marked) && is_request_next verb life)

-- the conversation whose request may be given
abbrev pub cleared_talk : Talk → Talk
cleared_talk talk = record talk { is_cleared = true }

-- ---- a place

-- A place: the conversation of its open connection, and its end once that is over.
pub record PlaceState : Type 0 where
  pub talk : Option Talk
  pub ending : Option Ending

-- whether nothing came, was given or is marked, since the job has not begun
pub record IsNew (life : Life) : Type 0 where
  pub has_not_begun : life.has_begun ≡ false
  pub is_not_over : life.is_over ≡ false
  pub no_bytes : life.fed ≡ []
  pub no_texts : life.given ≡ 0
  pub no_mark : life.is_marked ≡ false

-- whether an end is that of a life: the outcome of the bytes that came, and whether the request was
-- given
pub record IsEnding (verb : Verb) (life : Life) (ending : Ending) : Type 0 where
  pub outcome_is : ending.outcome ≡ outcome_of verb life.fed
  pub asked_is : ending.was_asked ≡ has_request life.given

-- whether the job is over, with this end
pub record HasEnded (verb : Verb) (life : Life) (ending : Ending) : Type 0 where
  pub has_begun : life.has_begun ≡ true
  pub is_over : life.is_over ≡ true
  pub ending_is : IsEnding verb life ending

-- whether a conversation and an end are those of a place that has this life
abbrev pub IsPlaceOf : Verb → List ℕ → Life → Option Talk → Option Ending → Type 0
IsPlaceOf verb password life None None = IsNew life
IsPlaceOf verb password life (Some talk) None = IsOpen life × IsTalk verb password life talk
IsPlaceOf verb password life None (Some ending) = HasEnded verb life ending
IsPlaceOf verb password life (Some talk) (Some ending) = ⊥

-- whether a place has this life: it waits, has a conversation, or has its end
abbrev pub IsPlace : Verb → List ℕ → Life → PlaceState → Type 0
IsPlace verb password life place = IsPlaceOf verb password life place.talk place.ending

-- whether there is a conversation
abbrev pub has_talk : Option Talk → Bool
has_talk (Some talk) = true
has_talk None = false

-- whether a place of this life gave a message that may be given, or none
abbrev pub HandsIn : Verb → List ℕ → Life → Option (List ℕ) → PlaceState → Type 0
HandsIn verb password life None new = IsPlace verb password life new
    × (IsOpen life → MustWait verb password life)
HandsIn verb password life (Some text) new = IsOpen life × MayGive verb password life text
    × IsPlace verb password (record life { given = suc life.given }) new

-- whether the next message was given that may be given, or none if there is none or the place is
-- not open
pub record HandsText (old : PlaceState) (result : Option (List ℕ)) (new : PlaceState) : Type 0
  where
    pub hands : (verb : Verb) (password : List ℕ) (life : Life) → IsPlace verb password life old
        → HandsIn verb password life result new

-- whether a place of this life processed bytes, if it has a conversation
abbrev pub TakesIn : {E : Type 0} → Verb → List ℕ → Life → Option Talk → List ℕ → Result Bool E
    → PlaceState → Type 0
TakesIn verb password life None bytes result new = IsPlace verb password life new
TakesIn verb password life (Some talk) bytes result new =
    IsPlace verb password (fed_life bytes result life) new

-- whether bytes were processed, if the place is open; out of memory, nothing has changed
pub record TakesBytes {E : Type 0} (old : PlaceState) (bytes : List ℕ) (result : Result Bool E)
    (new : PlaceState) : Type 0 where
  pub takes : (verb : Verb) (password : List ℕ) (life : Life) → IsPlace verb password life old
      → TakesIn verb password life old.talk bytes result new

-- whether this says if the request of a place is the next message and waits for its mark
pub record SaysDue (place : PlaceState) (result : Bool) : Type 0 where
  pub says : (verb : Verb) (password : List ℕ) (life : Life) → IsPlace verb password life place
      → result ≡ true → IsDue verb life

-- a conversation, if there is one, whose request may be given
abbrev pub clear_option : Option Talk → Option Talk
clear_option None = None
clear_option (Some talk) = Some (cleared_talk talk)

-- the place whose request may be given
abbrev pub cleared_place : PlaceState → PlaceState
cleared_place place = record { talk = clear_option place.talk; ending = place.ending }

-- whether a place of this life was ended with this outcome, if it was open
abbrev pub EndsIn : Verb → List ℕ → Life → Option Ending → PlaceState → Type 0
EndsIn verb password life None new = IsPlace verb password life new × (IsOpen life → ⊥)
EndsIn verb password life (Some ending) new = IsOpen life × IsEnding verb life ending
    × IsPlace verb password (record life { is_over = true }) new

-- whether the conversation is over, with the outcome of its bytes and whether the request was
-- given, or the place was not open
pub record EndsPlace (old : PlaceState) (result : Option Ending) (new : PlaceState)
    : Type 0 where
  pub ends : (verb : Verb) (password : List ℕ) (life : Life) → IsPlace verb password life old
      → EndsIn verb password life result new
