-- The progress of a session.
--     HasDone       what was asked and written so far, and that the session has yet to do the rest
--     IsSettled     there is nothing to do without more input
--     Settles       everything that the input asks for was done
--     IsCaughtUp    a session between two reads
use Rattle.std.specs.Prelude.{◌≡◌, ◌*◌, ◌<◌, ◌≤◌, ℕ, false, Option, Some, None, List, [], ◌++◌, length, ⊤, Result}
use Rattle.std.specs.Io.KnownBytes.{Consumes}
use Rattle.session_io.specs.Meters.{RepliesTo}
use Rattle.session_io.specs.declared.fault.ServeFault.{ServeFault}
use Rattle.session_io.specs.declared.fault.ServeFault.TheVariants as fault
use Rattle.relay_events.specs.declared.event.Event.{Event}
use Rattle.relay_events.specs.declared.reply.Reply.{Reply}
use Rattle.session_io.specs.Serving.{Plan, WritesTexts, remaining_plan, longest_piece}
use Rattle.session_io.specs.Sides.{Output, Outlets, Sides, WritesNothing}
use Rattle.session_core.specs.Ends.{EndsWithInput}
use Rattle.session_core.specs.Progress.{IsOver}
use Rattle.session_core.specs.Remaining.{still_asks, still_sends, still_ends, is_asking}
use Rattle.session_core.specs.Remaining.{is_finished}
use Rattle.session_core.specs.declared.end.SessionEnd.{SessionEnd}
use Rattle.session_core.specs.declared.end.SessionEnd.TheVariants as ending
use Rattle.session_core.specs.declared.session.Session.{Session}
use Rattle.turn_lock.specs.declared.call_fault.CallFault.{CallFault}
use Rattle.turn_lock.specs.declared.call_fault.CallFault.TheVariants as call

-- the session's fault for a fault of its meter
abbrev pub fault_of : CallFault → ServeFault
fault_of call.Memory = fault.Memory
fault_of call.Exhausted = fault.Exhausted
fault_of call.Journal = fault.Journal

-- whether a frame was not written: the write failed, or memory ran out and nothing was written
abbrev pub FailsToWrite : Output → ServeFault → Output → Type 0
FailsToWrite before fault.Read after = ⊥
FailsToWrite before fault.Write after = before.failures < after.failures
FailsToWrite before fault.Memory after = WritesNothing before after
FailsToWrite before fault.Exhausted after = ⊥
FailsToWrite before fault.Listen after = ⊥
FailsToWrite before fault.Journal after = ⊥

-- whether there is nothing to ask and nothing to send without more input
pub record IsSettled (s : Session) : Type 0 where
  pub asks : still_asks s [] ≡ []
  pub sends : (replies : List Reply) → still_sends s [] replies ≡ []

-- whether an invalid header ended the session
abbrev pub IsWrongHeader : SessionEnd → Type 0
IsWrongHeader ending.Closed = ⊥
IsWrongHeader ending.Cut = ⊥
IsWrongHeader ending.BadVersion = ⊤
IsWrongHeader ending.TooLong = ⊤

-- whether no invalid header ended the session: it is not over, or it ended with its input
abbrev pub MayContinue : Option SessionEnd → Type 0
MayContinue None = ⊤
MayContinue (Some end) = EndsWithInput end

-- whether a session that ended in this way has nothing left to do, and one that has not ended may
-- have more input and has found no invalid header
abbrev pub IsDone : Option SessionEnd → Session → Type 0
IsDone None s = (is_finished s ≡ false) × EndsWithInput (still_ends s [])
IsDone (Some end) s = IsOver end s

module _ {M : Type 0}
    (steps : M → Event → Result Reply CallFault → M → Type 0)
    (written_as : List ℕ → List ℕ) where
  -- whether, of a plan for these bytes and all that may follow, some events were asked and some
  -- texts were sent, and the session has yet to do the rest
  pub record HasDone (plan : Plan) (before : Outlets M) (seen : List ℕ) (s : Session)
      (after : Outlets M) : Type 0 where
    pub asked : List Event
    pub replies : List Reply
    pub sent : List (List ℕ)
    pub asks_rest : (more : List ℕ) → plan.asks (seen ++ more) ≡ asked ++ still_asks s more
    pub sends_rest : (more : List ℕ) (later : List Reply)
        → plan.sends (seen ++ more) (replies ++ later) ≡ sent ++ still_sends s more later
    pub ends_rest : (more : List ℕ) → plan.ends (seen ++ more) ≡ still_ends s more
    pub replied : RepliesTo steps before.meter asked replies after.meter
    pub wrote : WritesTexts written_as sent before.output after.output

  -- whether a session took in bytes and did everything that they ask for
  pub record Settles (old : Session) (before : Outlets M) (bytes : List ℕ)
      (end : Option SessionEnd) (new : Session) (after : Outlets M) : Type 0 where
    pub reached : HasDone (remaining_plan old) before bytes new after
    pub settled : IsSettled new
    pub done : IsDone end new
    pub silent : is_asking new ≡ false
    pub finished : is_finished new ≡ is_finished old

  -- whether a session has made `count` reads and done everything that the bytes read so far ask for
  pub record IsCaughtUp (old : Session) (before : Sides M) (count : ℕ) (s : Session)
      (after : Sides M) : Type 0 where
    pub seen : List ℕ
    pub read : Consumes before.input.left after.input.left seen
    pub short : length seen ≤ count * longest_piece
    pub reached : HasDone (remaining_plan old) before.outlets seen s after.outlets
    pub settled : IsSettled s
    pub ends : EndsWithInput (still_ends s [])
    pub silent : is_asking s ≡ false
