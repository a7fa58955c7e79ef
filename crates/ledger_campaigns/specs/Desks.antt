-- The histories of requests to a shared ledger.
--     DeskState         the view that contracts have of a shared ledger
--     LedgerCalls       the calls on a shared ledger
--     ledger_after      the ledger after a call, and last_ledger after many
--     IsCallAbout       the ledger before and after a call about a place that did not fail
--     HasOutcome        an outcome is the entry of its place, and the book keeps it
--     IsAnswer          an answer that a request may have, and AreAnswered of many
--     permit_result     the answer to the question for a permit
--     stored_result     the answer to a request to store an outcome
--     EndsStored        the last of the calls stored an outcome
--     HasAsked          the last call of a port, and its result
--     HasNoPermit       a permit was asked for and not given
--     IsRefused         a port asked for a permit and got none
--     IsAskedToStore    a port asked to store an outcome
--     permits_of        the places of the permits that an answer gives, and permits_given of all
--                       calls
--     IsLegalHistory    the calls of a ledger that had this state at the start
--     Stands            a ledger that results from these calls
use Rattle.std.specs.Prelude.{◌≡◌, ◌≢◌, ◌⊎◌, ℕ, ◌≤◌, List, [], ◌∷◌, ◌++◌, length, Option, Some}
use Rattle.std.specs.Prelude.{None, Result, Ok, Err, IsTrue, ⊤, false}
use Rattle.std.specs.declared.snapshot.Snapshot.{Snapshot}
use Rattle.turn_lock.specs.declared.turned.Entry.{Entry}
use Rattle.campaign_ledger.specs.declared.entry.LedgerEntry.TheVariants.{NotSent, Came}
use Rattle.turn_lock.specs.History.{entry, calls_by}
use Rattle.turn_lock.specs.Shown.{ShownPort}
use Rattle.client_core.specs.declared.job.Outcome.{Outcome}
use Rattle.campaign_ledger.specs.declared.fault.LedgerFault.{LedgerFault}
use Rattle.campaign_ledger.specs.declared.fault.LedgerFault.TheVariants as fault
use Rattle.campaign_ledger.specs.Entries.{HasCome, HasGone, entry_at, entry_after_begin}
use Rattle.campaign_ledger.specs.Grants.{LedgerState, Grants}
use Rattle.campaign_ledger.specs.Runs.{IsIn, AreApart}
use Rattle.ledger_campaigns.specs.declared.request.LedgerRequest.{LedgerRequest}
use Rattle.ledger_campaigns.specs.declared.request.LedgerRequest.TheVariants.{Begin, Record}
use Rattle.ledger_campaigns.specs.declared.request.LedgerAnswer.{LedgerAnswer}
use Rattle.ledger_campaigns.specs.declared.request.LedgerAnswer.TheVariants.{Given, Refused}
use Rattle.ledger_campaigns.specs.declared.request.LedgerAnswer.TheVariants.{Recorded, Failed}

-- A shared ledger: as it is, and as it was when it was first shared.
pub record DeskState (B : Type 0) : Type 0 where
  pub ledger : LedgerState B
  pub start : LedgerState B

-- a call on a shared ledger
abbrev pub LedgerCall : Type 0 → Type 0
LedgerCall B = Entry LedgerRequest (LedgerAnswer B)

-- the calls of all ports, oldest first
abbrev pub LedgerCalls : Type 0 → Type 0
LedgerCalls B = List (LedgerCall B)

module _ {B : Type 0} where
  -- the ledger after a call, as its answer shows it
  abbrev pub ledger_after : LedgerAnswer B → LedgerState B
  ledger_after (Given permit ledger) = ledger.value
  ledger_after (Refused ledger) = ledger.value
  ledger_after (Recorded ledger) = ledger.value
  ledger_after (Failed fault ledger) = ledger.value

  -- the ledger after these calls on one that had this state
  abbrev pub last_ledger : LedgerState B → LedgerCalls B → LedgerState B
  last_ledger start [] = start
  last_ledger start (call ∷ calls) = last_ledger (ledger_after call.reply) calls

  -- the places of the permits that an answer gives
  abbrev pub permits_of : LedgerAnswer B → List ℕ
  permits_of (Given permit ledger) = permit ∷ []
  permits_of (Refused ledger) = []
  permits_of (Recorded ledger) = []
  permits_of (Failed fault ledger) = []

  -- the answer to the question for a permit
  abbrev pub permit_result : LedgerAnswer B → Result (Option ℕ) LedgerFault
  permit_result (Given permit ledger) = Ok (Some permit)
  permit_result (Refused ledger) = Ok None
  permit_result (Recorded ledger) = Ok None
  permit_result (Failed fault ledger) = Err fault

  -- the answer to a request to store an outcome
  abbrev pub stored_result : LedgerAnswer B → Result (Unit {0}) LedgerFault
  stored_result (Given permit ledger) = Err fault.Failed
  stored_result (Refused ledger) = Err fault.Failed
  stored_result (Recorded ledger) = Ok tt
  stored_result (Failed fault ledger) = Err fault

  -- the last of the calls stored this outcome of a place, and the book keeps it, if it is honest
  abbrev pub EndsStored : (B → Type 0) → (B → ℕ → Outcome → Type 0) → ℕ → Outcome
      → LedgerCalls B → Type 0
  EndsStored is_honest keeps place outcome calls = (before : LedgerCalls B) × (by : List ℕ)
      × (ledger : Snapshot (LedgerState B))
      × (calls ≡ before ++ entry by (Record place outcome) (Recorded ledger) ∷ [])
      × (is_honest ledger.value.book → keeps ledger.value.book place outcome)

  -- whether one of the calls has this request
  abbrev pub HasRequest : LedgerRequest → LedgerCalls B → Type 0
  HasRequest request calls = (before later : LedgerCalls B) × (by : List ℕ)
      × (answer : LedgerAnswer B) × (calls ≡ before ++ entry by request answer ∷ later)

  -- whether one of the calls asked for the permit of this place and got none
  abbrev pub HasNoPermit : ℕ → LedgerCalls B → Type 0
  HasNoPermit place calls = (before later : LedgerCalls B) × (by : List ℕ)
      × (answer : LedgerAnswer B) × (calls ≡ before ++ entry by (Begin place) answer ∷ later)
      × (permits_of answer ≡ [])

  -- whether the port has read that all turns of the lock were drawn
  abbrev pub HasRunOut : {O : Type 0} → ShownPort LedgerRequest (LedgerAnswer B) O → Type 0
  HasRunOut port = port.bound ≤ port.known.drawn

  -- whether a call that the port has seen asked for the permit of this place and got none, or all
  -- turns were drawn
  abbrev pub IsRefused : {O : Type 0} → ℕ → ShownPort LedgerRequest (LedgerAnswer B) O → Type 0
  IsRefused place port = HasNoPermit place port.known.seen ⊎ HasRunOut port

  -- whether a call that the port has seen asked to store this outcome of a place, or all turns were
  -- drawn
  abbrev pub IsAskedToStore : {O : Type 0} → ℕ → Outcome
      → ShownPort LedgerRequest (LedgerAnswer B) O → Type 0
  IsAskedToStore place outcome port = HasRequest (Record place outcome) port.known.seen
      ⊎ HasRunOut port

  -- Whether a port has made a call with this request, the last one that it has seen and the only
  -- further call of its number, and returned the result of its answer; or all turns were drawn, and
  -- the port made no further call and returned `Failed`.
  abbrev pub HasAsked : {A O : Type 0} → LedgerRequest → (LedgerAnswer B → Result A LedgerFault)
      → Result A LedgerFault → ShownPort LedgerRequest (LedgerAnswer B) O
      → ShownPort LedgerRequest (LedgerAnswer B) O → Type 0
  HasAsked request result_of result old new = ((between : LedgerCalls B) × (answer : LedgerAnswer B)
      × (new.known.seen ≡ (old.known.seen ++ between)
      ++ entry old.known.number request answer ∷ []) × (result ≡ result_of answer)
      × (calls_by old.known.number new.known.seen ≡ calls_by old.known.number old.known.seen
      ++ entry old.known.number request answer ∷ []))
      ⊎ ((new.bound ≤ new.known.drawn) × (result ≡ Err fault.Failed)
      × (calls_by old.known.number new.known.seen ≡ calls_by old.known.number old.known.seen))

  -- the places of the permits that calls gave, in order
  abbrev pub permits_given : LedgerCalls B → List ℕ
  permits_given [] = []
  permits_given (call ∷ calls) = permits_of call.reply ++ permits_given calls

module _ {B : Type 0} (is_honest : B → Type 0) (is_marked : B → ℕ → Type 0)
    (keeps : B → ℕ → Outcome → Type 0) where
  -- Whether a call about a place did not fail, on a ledger that had not failed, and changed nothing
  -- of another place: neither its entry, nor, if the book is honest, its outcome in the book.
  pub record IsCallAbout (place : ℕ) (before now : LedgerState B) : Type 0 where
    pub had_not_failed : before.has_failed ≡ false
    pub has_not_failed : now.has_failed ≡ false
    pub count : length now.entries ≡ length before.entries
    pub others : (other : ℕ) → other ≢ place
        → entry_at now.entries other ≡ entry_at before.entries other
    pub honest : is_honest now.book → is_honest before.book
    pub kept : is_honest now.book → (other : ℕ) (outcome : Outcome) → other ≢ place
        → keeps before.book other outcome → keeps now.book other outcome

  -- whether this outcome of a place is its entry, and the book keeps it, if it is honest
  pub record HasOutcome (place : ℕ) (outcome : Outcome) (ledger : LedgerState B) : Type 0 where
    pub entry_is : entry_at ledger.entries place ≡ Came outcome
    pub kept : is_honest ledger.book → keeps ledger.book place outcome

  -- Whether a request may have this answer, if `before` is the ledger before the call. A permit is
  -- for the place that was asked for, whose command was not sent before, by its entry, and which is
  -- marked in the book after the call. It is refused only if its command may have been sent, by its
  -- entry or by its mark in the book before the call. An outcome that is stored is the first one of
  -- its place, and then the entry, and the book keeps it; it is refused only for a place that the
  -- campaign lacks. No call changes the entry of another place, and one that failed changes no
  -- entry. What the book says holds if it was honest.
  abbrev pub IsAnswer : LedgerState B → LedgerRequest → LedgerAnswer B → Type 0
  IsAnswer before (Begin place) (Given permit now) = (permit ≡ place)
      × (entry_at before.entries place ≡ NotSent)
      × (is_honest now.value.book → is_marked now.value.book place)
      × IsCallAbout place before now.value
  IsAnswer before (Begin place) (Refused now) = HasGone (entry_at now.value.entries place)
      × (entry_at now.value.entries place ≡ entry_after_begin (entry_at before.entries place))
      × (is_honest now.value.book → entry_at before.entries place ≡ NotSent
      → is_marked before.book place)
      × (is_honest now.value.book → (outcome : Outcome) → keeps before.book place outcome
      → keeps now.value.book place outcome)
      × IsCallAbout place before now.value
  IsAnswer before (Begin place) (Recorded now) = ⊥
  IsAnswer before (Record place outcome) (Given permit now) = ⊥
  IsAnswer before (Record place outcome) (Refused now) = (length now.value.entries ≤ place)
      × (now.value ≡ before)
  IsAnswer before (Record place outcome) (Recorded now) =
      (¬ HasCome (entry_at before.entries place))
      × HasOutcome place outcome now.value × IsCallAbout place before now.value
  IsAnswer before request (Failed fault now) = IsTrue now.value.has_failed
      × (now.value.entries ≡ before.entries)

  -- whether each of these calls, made on a ledger that had this state, has an answer that its
  -- request may have, by the ledger that the calls before it left
  abbrev pub AreAnswered : LedgerState B → LedgerCalls B → Type 0
  AreAnswered before [] = ⊤
  AreAnswered before (call ∷ calls) = IsAnswer before call.event call.reply
      × AreAnswered (ledger_after call.reply) calls

  -- Whether each call has an answer that its request may have. The calls gave each place at most
  -- one permit, and none to a place whose entry said at the start that its command may have been
  -- sent.
  pub record IsLegalHistory (start : LedgerState B) (calls : LedgerCalls B)
      : Type 0 where
    pub answers : AreAnswered start calls
    pub apart : AreApart (permits_given calls)
    pub not_sent : (place : ℕ) → IsIn place (permits_given calls)
        → entry_at start.entries place ≡ NotSent

  -- whether the ledger results from these calls
  pub record Stands (desk : DeskState B) (calls : LedgerCalls B) : Type 0 where
    pub answers : AreAnswered desk.start calls
    pub last_is : desk.ledger ≡ last_ledger desk.start calls
    pub grants : Grants is_honest is_marked desk.start desk.ledger (permits_given calls)
