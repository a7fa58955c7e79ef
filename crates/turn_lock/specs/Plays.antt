-- How each step on the table changes the seat that takes it.
--     Move        a step: the number expected, the number found, and the seat before and after
--     Settles ..  what each kind of step does, as a relation on moves
--     play        such a relation in the form that the table takes
use Rattle.std.specs.Prelude.{◌≡◌, ◌≢◌, ℕ, ◌+◌, ◌<◌, ◌≤◌, true, List, [], ◌∷◌, ◌++◌, length, Some}
use Rattle.atomic_table.specs.Table.{Me, Step}
use Rattle.turn_lock.specs.declared.turned.Entry.{Entry}
use Rattle.turn_lock.specs.declared.known.Known.{Known}
use Rattle.turn_lock.specs.declared.known.View.{View}
use Rattle.turn_lock.specs.declared.known.Stage.{Stage}
use Rattle.turn_lock.specs.declared.known.Stage.TheVariants.{Young, Idle, Turn, Met}
use Rattle.turn_lock.specs.declared.board.Slot.{Slot}
use Rattle.turn_lock.specs.History.{StartsWith, IsAmong, calls_by}
use Rattle.turn_lock.specs.Rule.{max_turns, LastCall, full_slot, IsOwn, IsUnused, HasNoCalls}
use Rattle.turn_lock.specs.Calls.{IsLegal, Sees, Watches}
use Rattle.turn_lock.specs.Seats.{SeatState, last_call, new_entries, view_with_served, view_after_turn, joined_with, seat_state, at_stage}

-- One step of a seat. `expected` is the number that a compare-exchange replaces, and `found` the
-- number that the step read.
pub record Move (T E R O : Type 0) : Type 0 where
  pub expected : ℕ
  pub found : ℕ
  pub before : SeatState T E R O
  pub after : SeatState T E R O

module _ {T E R O : Type 0} where
  -- whether a step on the table is a move with this relation, for a seat before and after it
  abbrev pub play : (Move T E R O → Type 0) → Step (Slot T E R) → Me (Slot T E R) (View E R O) → ℕ
      → Me (Slot T E R) (View E R O) → Type 0
  play Holds step before found after = Holds record {
    expected = step.first;
    found = found;
    before = seat_state before;
    after = seat_state after;
  }

  -- Whether a seat took its first step and is idle. A seat that was split off learns that it has no
  -- calls.
  pub record Settles (move : Move T E R O) : Type 0 where
    pub after_is : move.after ≡ at_stage move.before Idle
    pub no_calls : move.before.view.stage ≡ Young → HasNoCalls move.before.view.known

  -- whether a seat loaded the count of ended turns: no less than the seat had read before, at least
  -- one for each call that it has seen, and at most one more than a lock can have turns
  pub record SeesServing (move : Move T E R O) : Type 0 where
    pub view : move.after.view ≡ view_with_served move.before.view move.found
    pub carried : move.after.carried ≡ move.before.carried
    pub no_less : move.before.view.known.served ≤ move.found
    pub counted : length move.before.view.known.seen ≤ move.found
    pub within : move.found ≤ max_turns + 1

module _ {E R O : Type 0} (legal : O → List (Entry E R) → Type 0) where
  -- whether a turn has ended: its call, if it made one, is the only further entry that the port has
  -- seen
  pub record AddsCall (last : LastCall E R) (before after : View E R O) : Type 0 where
    pub view : after ≡ view_after_turn before last
    pub lawful : IsLegal legal after.known
    pub own_calls : calls_by before.known.number after.known.seen
        ≡ calls_by before.known.number before.known.seen ++ new_entries before.known.number last
    pub joined_calls : (q : List ℕ) → IsAmong q before.known.joined
        → calls_by q after.known.seen ≡ calls_by q before.known.seen
    pub within : (turn : ℕ) → before.stage ≡ Turn turn → length after.known.seen ≤ turn + 1

  -- Whether a port that took in another seat has seen all that both had seen. If the other seat was
  -- a port's, there is no further call of its numbers, which are the port's now.
  pub record KnowsBoth (before : Known E R O) (other after : View E R O) : Type 0 where
    pub port : after.is_port ≡ true
    pub stage_is : after.stage ≡ Idle
    pub sees : Sees legal before after.known
    pub joined : after.known.joined ≡ joined_with before other
    pub drawn : other.known.drawn ≤ after.known.drawn
    pub other_seen : StartsWith after.known.seen other.known.seen
    pub same_origin : (o : O) → other.known.origin ≡ Some o → before.origin ≡ Some o
    pub other_calls : other.is_port ≡ true → (q : List ℕ) → IsOwn other.known q
        → calls_by q after.known.seen ≡ calls_by q other.known.seen

module _ {T E R O : Type 0} (legal : O → List (Entry E R) → Type 0) where
  -- whether the seat is still a port's, is at this stage and has only watched
  pub record MovesTo (stage : Stage E R O) (before after : SeatState T E R O) : Type 0 where
    pub port : after.view.is_port ≡ true
    pub stage_is : after.view.stage ≡ stage
    pub watches : Watches legal before.view.known after.view.known

  -- whether a seat loaded the count of drawn turns
  pub record Looks (move : Move T E R O) : Type 0 where
    pub moves : MovesTo Idle move.before move.after
    pub carried : move.after.carried ≡ move.before.carried
    pub drawn : move.after.view.known.drawn ≡ move.found

  -- whether a seat ended its turn: it returns the slot, whose call is added to the history
  pub record Ends (move : Move T E R O) : Type 0 where
    pub carried : move.after.carried ≡ []
    pub adds : AddsCall legal (last_call move.before.carried) move.before.view move.after.view

  -- whether a seat that took in another loaded the count of ended turns, and so knows what both had
  -- seen
  pub record Merges (move : Move T E R O) : Type 0 where
    pub carried : move.after.carried ≡ move.before.carried
    pub knows_both : (other : View E R O)
        → move.before.view.stage ≡ Met other.is_port other.known
        → KnowsBoth legal move.before.view.known other move.after.view

  -- whether a compare-exchange found the lock busy: more turns were drawn than had ended
  pub record FindsBusy (move : Move T E R O) : Type 0 where
    pub moves : MovesTo Idle move.before move.after
    pub carried : move.after.carried ≡ move.before.carried
    pub more : move.expected < move.found
    pub drawn : move.after.view.known.drawn ≡ move.found
    pub served : move.after.view.known.served ≡ move.before.view.known.served

module _ {T E R O : Type 0} (origin : T → O) (stands : T → List (Entry E R) → Type 0)
    (legal : O → List (Entry E R) → Type 0) where
  -- whether the seat has taken the slot, and the value in it results from all that the seat has
  -- seen
  pub record TakesValue (stage : Stage E R O) (before after : SeatState T E R O) : Type 0 where
    pub moves : MovesTo legal stage before after
    pub value : T
    pub last : LastCall E R
    pub carried : after.carried ≡ (0, full_slot value last) ∷ before.carried
    pub results : stands value after.view.known.seen
    pub origin_is : before.view.known.origin ≡ Some (origin value)
    pub unused : (q : List ℕ) → IsUnused before.view.known q
        → calls_by q after.view.known.seen ≡ []

  -- whether the seat has taken the value at this turn, and has read that the turn was drawn
  pub record TakesTurn (turn : ℕ) (before after : SeatState T E R O) : Type 0 where
    pub takes : TakesValue (Turn turn) before after
    pub drawn : turn < after.view.known.drawn

  -- whether a compare-exchange draws a turn: the seat takes the turn and the value, or is unchanged
  -- if another seat was first
  pub record Draws (move : Move T E R O) : Type 0 where
    pub if_expected : move.found ≡ move.expected → TakesTurn move.found move.before move.after
    pub if_other : move.found ≢ move.expected → move.after ≡ move.before

  -- whether a compare-exchange draws the last turn, if all drawn turns have ended, or finds the
  -- lock busy
  pub record Closes (move : Move T E R O) : Type 0 where
    pub if_expected : move.found ≡ move.expected → TakesValue Idle move.before move.after
    pub if_other : move.found ≢ move.expected → FindsBusy legal move
