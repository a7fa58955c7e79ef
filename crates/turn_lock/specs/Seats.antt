-- Seats at the table: their views, and the slots that they carry.
use Rattle.std.specs.Prelude.{◌≡◌, ℕ, ◌≤◌, true, false, if◌then◌else◌, List, [], ◌∷◌, ◌++◌, Option, Some, None}
use Rattle.atomic_table.specs.Table.{Me}
use Rattle.atomic_table.specs.Seated.{TableId}
use Rattle.atomic_table.specs.declared.shared.Seat.{Seat}
use Rattle.turn_lock.specs.declared.turned.Entry.{Entry}
use Rattle.turn_lock.specs.declared.known.JoinedPort.{JoinedPort}
use Rattle.turn_lock.specs.declared.known.Known.{Known}
use Rattle.turn_lock.specs.declared.known.View.{View}
use Rattle.turn_lock.specs.declared.known.Stage.{Stage}
use Rattle.turn_lock.specs.declared.known.Stage.TheVariants.{Young, Idle, SawServing, Met}
use Rattle.turn_lock.specs.declared.board.Slot.{Slot}
use Rattle.turn_lock.specs.History.{entry}
use Rattle.turn_lock.specs.Rule.{max_turns, LastCall, fresh_known}
use Rattle.turn_lock.specs.Calls.{IsLegal, parent_after_split, child_after_split}

-- whether a table has two words and one slot
abbrev pub IsSized : TableId → Type 0
IsSized table = (table.words ≡ 2) × (table.slots ≡ 1)

-- the slot while a turn is held
abbrev pub empty_slot : {T E R : Type 0} → Slot T E R
empty_slot = record { value = None; last = None }

-- the slots that a seat carries, each with its index
abbrev pub CarriedSlots : Type 0 → Type 0 → Type 0 → Type 0
CarriedSlots T E R = List (ℕ × Slot T E R)

-- the call that the slot taken last records
abbrev pub last_call : {T E R : Type 0} → CarriedSlots T E R → LastCall E R
last_call [] = None
last_call ((index, slot) ∷ rest) = slot.last

-- the entries that the end of a turn adds to the history: the call of this port, if it made one
abbrev pub new_entries : {E R : Type 0} → List ℕ → LastCall E R → List (Entry E R)
new_entries port None = []
new_entries port (Some (event, reply)) = entry port event.value reply.value ∷ []

module _ {E R O : Type 0} where
  -- the view with its stage replaced
  abbrev pub with_stage : View E R O → Stage E R O → View E R O
  with_stage view stage = record view { stage = stage }

  -- the view of a port that was split
  abbrev pub parent_view : View E R O → View E R O
  parent_view view = record view { known = parent_after_split view.known }

  -- the view of the port that was split off
  abbrev pub child_view : View E R O → View E R O
  child_view view = record {
    known = child_after_split view.known;
    is_port = true;
    stage = Young;
  }

  -- the view of a seat that has no number: it has seen a history, but makes no calls
  abbrev pub reader_view : Option O → List (Entry E R) → View E R O
  reader_view origin seen = record {
    known = fresh_known origin [] seen;
    is_port = false;
    stage = Idle;
  }

  -- the view of a note
  abbrev pub note_view : View E R O → View E R O
  note_view view = reader_view view.known.origin view.known.seen

  -- the view of a seat after it was joined into another
  abbrev pub spent_view : View E R O
  spent_view = reader_view None []

  -- the view of a seat that another was joined into
  abbrev pub view_with : View E R O → View E R O → View E R O
  view_with view other = with_stage view (Met other.is_port other.known)

  -- the view of a seat that has read how many turns have ended
  abbrev pub view_with_served : View E R O → ℕ → View E R O
  view_with_served view served = record {
    known = record view.known { served = served };
    is_port = view.is_port;
    stage = SawServing served;
  }

  -- the view of a port after its turn
  abbrev pub view_after_turn : View E R O → LastCall E R → View E R O
  view_after_turn view last = record {
    known = record view.known { seen = view.known.seen ++ new_entries view.known.number last };
    is_port = view.is_port;
    stage = Idle;
  }

  -- the numbers joined into a port once it has taken in another seat: a port brings its own numbers
  abbrev pub joined_with : Known E R O → View E R O → List JoinedPort
  joined_with known other = if other.is_port
      then known.joined
      ++ record { number = other.known.number; splits = other.known.splits } ∷ other.known.joined
      else known.joined

-- A seat: its view, and the slots that it carries.
pub record SeatState (T E R O : Type 0) : Type 0 where
  pub view : View E R O
  pub carried : CarriedSlots T E R

module _ {T E R O : Type 0} where
  -- the seat with this view and these slots
  abbrev pub seat_with : View E R O → CarriedSlots T E R → SeatState T E R O
  seat_with view carried = record { view = view; carried = carried }

  -- the seat from the table's form, which is a pair
  abbrev pub seat_state : Me (Slot T E R) (View E R O) → SeatState T E R O
  seat_state (view, carried) = seat_with view carried

  -- the view and the slots of a seat
  abbrev pub state_of : Seat (Slot T E R) (View E R O) → SeatState T E R O
  state_of seat = seat_state seat.me

  -- the view of a seat
  abbrev pub view_of : Seat (Slot T E R) (View E R O) → View E R O
  view_of seat = (state_of seat).view

  -- the knowledge of a seat
  abbrev pub known_of : Seat (Slot T E R) (View E R O) → Known E R O
  known_of seat = (view_of seat).known

  -- the slots that a seat carries
  abbrev pub carried_of : Seat (Slot T E R) (View E R O) → CarriedSlots T E R
  carried_of seat = (state_of seat).carried

  -- the seat with its stage replaced
  abbrev pub at_stage : SeatState T E R O → Stage E R O → SeatState T E R O
  at_stage seat stage = seat_with (with_stage seat.view stage) seat.carried

  -- whether the seat is a port's, is at this stage and carries these slots
  pub record IsReady (seat : Seat (Slot T E R) (View E R O)) (stage : Stage E R O)
      (carried : CarriedSlots T E R) : Type 0 where
    pub port : (view_of seat).is_port ≡ true
    pub stage_is : (view_of seat).stage ≡ stage
    pub carried_is : carried_of seat ≡ carried

  -- whether a seat is as that of a port always is: at its table, idle and without a slot, with a
  -- legal history that it has seen, and with a bound that a lock may be made with
  pub record IsPortSeat (legal : O → List (Entry E R) → Type 0) (table : TableId)
      (seat : Seat (Slot T E R) (View E R O)) (bound : ℕ) : Type 0 where
    pub table_is : seat.table_id ≡ table
    pub sized : IsSized seat.table_id
    pub ready : IsReady seat Idle []
    pub lawful : IsLegal legal (known_of seat)
    pub within_most : bound ≤ max_turns

  -- whether a seat is as that of a note always is: without a slot and not a port's, with a legal
  -- history that it has seen
  pub record IsNoteSeat (legal : O → List (Entry E R) → Type 0)
      (seat : Seat (Slot T E R) (View E R O)) : Type 0 where
    pub carried_is : carried_of seat ≡ []
    pub no_port : (view_of seat).is_port ≡ false
    pub lawful : IsLegal legal (known_of seat)
