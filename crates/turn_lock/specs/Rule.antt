-- The invariant of the table: what holds for its words, its slot and all views between any two
-- steps.
--     Moment         the table at one moment
--     Fits           a seat's view agrees with the moment
--     Facts          all that holds at a moment
--     IsLockState    the invariant
use Rattle.std.specs.Prelude.{◌≡◌, ◌≢◌, ◌⊎◌, ℕ, ◌+◌, ◌^◌, ◌<◌, ◌≤◌, Bool, true, List, [], ◌∷◌, length, Option, Some, None}
use mathlib.Core.Option.{some, none}
use mathlib.Core.Option as maybe
use lib.ListN.{get_elem?}
use Rattle.std.specs.declared.snapshot.Snapshot.{Snapshot}
use Rattle.atomic_table.specs.Table.{State}
use Rattle.turn_lock.specs.declared.turned.Entry.{Entry}
use Rattle.turn_lock.specs.declared.known.Known.{Known}
use Rattle.turn_lock.specs.declared.known.View.{View}
use Rattle.turn_lock.specs.declared.known.Stage.{Stage}
use Rattle.turn_lock.specs.declared.known.Stage.TheVariants.{New, Young, Idle, Turn, SawServing, Met}
use Rattle.turn_lock.specs.declared.board.Slot.{Slot}
use Rattle.turn_lock.specs.History.{StartsWith, IsAmong, IsBelow, IsFuture, calls_by}

-- the largest bound that a lock may be made with
abbrev pub max_turns : ℕ
max_turns = 2 ^ 62

-- the knowledge of a seat with this origin and number that has seen this history and has read no
-- count
abbrev pub fresh_known : {E R O : Type 0} → Option O → List ℕ → List (Entry E R) → Known E R O
fresh_known origin number seen = record {
  origin = origin;
  number = number;
  splits = 0;
  joined = [];
  seen = seen;
  drawn = 0;
  served = 0;
}

-- the first port's knowledge right after `Shared::new`
abbrev pub first_known : {E R O : Type 0} → O → Known E R O
first_known origin = fresh_known (Some origin) [] []

-- the view of the first seat
abbrev pub first_view : {E R O : Type 0} → O → View E R O
first_view origin = record { known = first_known origin; is_port = true; stage = New }

-- the call of a turn: its event and its reply, or `None` if the turn made no call
abbrev pub LastCall : Type 0 → Type 0 → Type 0
LastCall E R = Option (Snapshot E × Snapshot R)

-- the slot with the value in it, and the call of the last turn
abbrev pub full_slot : {T E R : Type 0} → T → LastCall E R → Slot T E R
full_slot value last = record { value = Some value; last = last }

-- whether q is the port's own number or one joined into it
abbrev pub IsOwn : {E R O : Type 0} → Known E R O → List ℕ → Type 0
IsOwn known q = (q ≡ known.number) ⊎ IsAmong q known.joined

-- whether q is a number that no port has: a later split of the port, or of one joined into it, may
-- make a port with it
abbrev pub IsUnused : {E R O : Type 0} → Known E R O → List ℕ → Type 0
IsUnused known q = IsFuture known.number known.splits q ⊎ IsBelow q known.joined

-- whether q is the number of a port that was joined in, or one below it
abbrev pub IsTaken : {E R O : Type 0} → Known E R O → List ℕ → Type 0
IsTaken known q = IsAmong q known.joined ⊎ IsBelow q known.joined

-- whether the port has seen no call of its own
abbrev pub HasNoCalls : {E R O : Type 0} → Known E R O → Type 0
HasNoCalls known = calls_by known.number known.seen ≡ []

-- The table at one moment. `history` is the longest history, `start` its origin, and `home` the
-- slot if no seat holds it. `holder` is the seat that a port number belongs to, `owner` the seat
-- that drew a turn. `lone` says that the first seat is the only one. `closed` is 1 once the lock is
-- closed.
pub record Moment (T E R O : Type 0) : Type 0 where
  pub ticket : ℕ
  pub serving : ℕ
  pub start : O
  pub history : List (Entry E R)
  pub home : maybe.Option (Slot T E R)
  pub holder : List ℕ → ℕ
  pub owner : ℕ → ℕ
  pub lone : Bool
  pub closed : ℕ

module _ {T E R O : Type 0} where
  -- whether the seat drew this turn, which has not ended
  pub record HoldsTurn (now : Moment T E R O) (seat turn : ℕ) : Type 0 where
    pub not_ended : now.serving ≤ turn
    pub drawn : turn < now.ticket
    pub owner_is : now.owner turn ≡ seat

  -- whether the seat has taken the slot at this turn, and has seen the whole history
  pub record HoldsSlot (now : Moment T E R O) (seat turn : ℕ) (known : Known E R O) : Type 0 where
    pub holds : HoldsTurn now seat turn
    pub served : turn ≡ now.serving
    pub seen : known.seen ≡ now.history
    pub not_closed : now.closed ≡ 0

  -- Whether the number of a port that this seat has taken in is the seat's now, and neither the
  -- seat's own port nor a split of it has this number. These are all calls of it.
  pub record OwnsNumber (now : Moment T E R O) (seat : ℕ) (known : Known E R O)
      (calls : List (Entry E R)) (q : List ℕ) : Type 0 where
    pub holder_is : now.holder q ≡ seat
    pub calls_are : calls_by q now.history ≡ calls
    pub not_own : q ≢ known.number
    pub not_future : ¬ IsFuture known.number known.splits q

  -- whether the seat has taken in another seat, and if that was a port's, its numbers
  pub record HasMet (now : Moment T E R O) (seat : ℕ) (known : Known E R O) (other_is_port : Bool)
      (other : Known E R O) : Type 0 where
    pub seen : StartsWith now.history other.seen
    pub origin_is : (o : O) → other.origin ≡ Some o → o ≡ now.start
    pub drawn : other.drawn ≤ now.ticket
    pub numbers : other_is_port ≡ true → (q : List ℕ) → IsOwn other q
        → OwnsNumber now seat known (calls_by q other.seen) q
    pub unused : other_is_port ≡ true → (q : List ℕ) → IsUnused other q
        → OwnsNumber now seat known [] q

  -- whether a seat at this stage knows what holds at the moment; `first` is the value that the lock
  -- was made with
  abbrev pub FitsStage : T → Moment T E R O → ℕ → Known E R O → Stage E R O → Type 0
  FitsStage first now seat known New = (now.lone ≡ true) × (now.home ≡ some (full_slot first None))
  FitsStage first now seat known Young = HasNoCalls known
  FitsStage first now seat known Idle = Unit {0}
  FitsStage first now seat known (Turn turn) = HoldsSlot now seat turn known
  FitsStage first now seat known (SawServing count) = count ≤ now.serving
  FitsStage first now seat known (Met other_is_port other) =
      HasMet now seat known other_is_port other

module _ {T E R O : Type 0} (origin : T → O) (stands : T → List (Entry E R) → Type 0) where
  -- whether the value is in the slot and results from the history, and the lock is not closed
  pub record IsHome (now : Moment T E R O) : Type 0 where
    pub value : T
    pub last : LastCall E R
    pub home_is : now.home ≡ some (full_slot value last)
    pub results : stands value now.history
    pub origin_is : origin value ≡ now.start
    pub not_closed : now.closed ≡ 0

-- Whether a port has seen all calls of its own numbers. Those that no port has, have no calls, and
-- all these numbers are distinct.
pub record IsPort {E R O : Type 0} (start : O) (holder : List ℕ → ℕ) (seat : ℕ)
    (history : List (Entry E R)) (known : Known E R O) : Type 0 where
  pub origin_is : known.origin ≡ Some start
  pub own : (q : List ℕ) → IsOwn known q
      → (holder q ≡ seat) × (calls_by q history ≡ calls_by q known.seen)
  pub unused : (q : List ℕ) → IsUnused known q → (holder q ≡ seat) × (calls_by q history ≡ [])
  pub apart : (q : List ℕ) → IsTaken known q
      → (q ≢ known.number) × ¬ IsFuture known.number known.splits q

-- whether the view of a seat agrees with the moment
pub record Fits {T E R O : Type 0} (first : T) (now : Moment T E R O) (seat : ℕ) (view : View E R O)
    : Type 0 where
  pub origin_is : (o : O) → view.known.origin ≡ Some o → o ≡ now.start
  pub seen : StartsWith now.history view.known.seen
  pub drawn : view.known.drawn ≤ now.ticket
  pub served : view.known.served ≤ now.serving
  pub first_if_lone : now.lone ≡ true → seat ≡ 0
  pub stage : FitsStage first now seat view.known view.stage
  pub port : view.is_port ≡ true → IsPort now.start now.holder seat now.history view.known

-- whether all of this holds at a moment: the longest history is legal and has at most one call for
-- each turn that has ended; the value is in the slot or a turn is held; each view agrees with the
-- moment
pub record Facts {T E R O : Type 0} (origin : T → O) (stands : T → List (Entry E R) → Type 0)
    (legal : O → List (Entry E R) → Type 0) (first : T) (now : Moment T E R O)
    (views : List (View E R O)) : Type 0 where
  pub range : now.serving ≤ now.ticket
  pub within_most : now.ticket ≤ max_turns + now.closed
  pub closed_once : now.closed ≤ 1
  pub lawful : legal now.start now.history
  pub counted : length now.history ≤ now.serving
  pub home_or_held : IsHome origin stands now ⊎ (now.serving < now.ticket)
  pub fits : (seat : ℕ) (view : View E R O) → get_elem? views seat ≡ some view
      → Fits first now seat view

-- whether the invariant of the table holds: the words and the slot are those of a moment at which
-- `Facts` holds
pub record IsLockState {T E R O : Type 0} (origin : T → O) (stands : T → List (Entry E R) → Type 0)
    (legal : O → List (Entry E R) → Type 0) (first : T) (s : State (Slot T E R) (View E R O))
    : Type 0 where
  pub now : Moment T E R O
  pub words_are : s.words ≡ now.ticket ∷ now.serving ∷ []
  pub homes_are : s.homes ≡ now.home ∷ []
  pub facts : Facts origin stands legal first now s.views
