-- One meter with its sessions.
--     MeterState     a recorder, the management client's password, and a place for each session
--     dialogue_at    the session with a number
--     AtSession      a call that changes one session
--     Takes          an event that the meter applied
use Rattle.std.specs.Prelude.{◌≡◌, ◌≢◌, ℕ, Option, Some, None, List, length, slice_index_or}
use Rattle.acse_ber.specs.Password.{IsPassword}
use Rattle.relay_events.specs.declared.event.Event.{Event}
use Rattle.relay_events.specs.declared.reply.Reply.{Reply}
use Rattle.relay_recorder.specs.Histories.{Continues}
use Rattle.relay_recorder.specs.Recording.{Recording}
use Rattle.embedded_meter.specs.Dialogues.{Dialogue}

-- a meter; a place without a session is `None`
pub record MeterState : Type 0 where
  pub recorder : Recording
  pub password : List ℕ
  pub places : List (Option Dialogue)

-- the maximum number of open sessions
abbrev pub max_sessions : ℕ
max_sessions = 8

-- whether the invariant of a meter holds: its password has 1 to 32 bytes, and it has a place for
-- each session
pub record IsMeterState (m : MeterState) : Type 0 where
  pub named : IsPassword m.password
  pub places : length m.places ≡ max_sessions

-- the session with a number, if one is open
abbrev pub dialogue_at : MeterState → ℕ → Option Dialogue
dialogue_at m number = slice_index_or m.places number None

-- whether the other sessions, and the password, are unchanged
pub record OthersStay (old : MeterState) (number : ℕ) (new : MeterState) : Type 0 where
  pub others : (other : ℕ) → other ≢ number → dialogue_at new other ≡ dialogue_at old other
  pub password : new.password ≡ old.password

-- whether a call did this to the open session with this number, and left the other sessions and the
-- password unchanged
pub record AtSession (old : MeterState) (number : ℕ) (new : MeterState) (Does : Dialogue → Dialogue
    → Type 0) : Type 0 where
  pub before : Dialogue
  pub after : Dialogue
  pub was : dialogue_at old number ≡ Some before
  pub is : dialogue_at new number ≡ Some after
  pub does : Does before after
  pub stay : OthersStay old number new

-- whether the meter applied an event, and this is its reply; the sessions, the password and the
-- capacity are unchanged
pub record Takes (old : MeterState) (event : Event) (reply : Reply) (new : MeterState) : Type 0
  where
    pub continues : Continues old.recorder new.recorder event reply
    pub capacity : new.recorder.capacity ≡ old.recorder.capacity
    pub password : new.password ≡ old.password
    pub places : new.places ≡ old.places
