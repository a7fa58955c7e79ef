-- The effect of a session on its streams and its meter.
--     Plan             what a session does for each input
--     Work             what it does for one input
--     DoesAll          all events were asked, and all answers to their replies were written
--     StopsShort       out of memory
--     IsRefused        the meter refused an event
--     IsUnwritten      a write failed
--     Stops            a session that stopped early, by its fault
--     Pieces           the reads: their number and lengths
--     HasEffect        the effect of the bytes that were read, by the result
--     ServesSession    a whole session
use Rattle.std.specs.Prelude.{◌≡◌, ◌⊎◌, ◌+◌, ◌*◌, ◌<◌, ◌≤◌, ℕ, Option, List, ◌++◌, length, ⊤, Result, Ok, Err}
use Rattle.std.specs.List.{flat_map}
use Rattle.std.specs.Io.KnownBytes.{Appends, Consumes, IsAtEnd}
use Rattle.session_io.specs.Meters.{RepliesTo, RefusesLast}
use Rattle.session_io.specs.Sides.{Input, Output, Outlets, Sides}
use Rattle.session_io.specs.declared.fault.ServeFault.{ServeFault}
use Rattle.session_io.specs.declared.fault.ServeFault.TheVariants as fault
use Rattle.relay_events.specs.declared.event.Event.{Event}
use Rattle.relay_events.specs.declared.reply.Reply.{Reply}
use Rattle.session_core.specs.Backwards.{Asks, Answers, end_of}
use Rattle.session_core.specs.Ends.{EndsWithInput}
use Rattle.session_core.specs.Remaining.{still_asks, still_sends, still_ends}
use Rattle.session_core.specs.declared.end.SessionEnd.{SessionEnd}
use Rattle.session_core.specs.declared.end.SessionEnd.TheVariants as ending
use Rattle.session_core.specs.declared.session.Session.{Session}
use Rattle.turn_lock.specs.declared.call_fault.CallFault.{CallFault}
use Rattle.turn_lock.specs.declared.call_fault.CallFault.TheVariants as call

-- ---- what a session does

-- What a session does for each input: the events that it asks, the texts that it sends for the
-- replies to them, and how it ends.
pub record Plan : Type 0 where
  pub asks : List ℕ → List Event
  pub sends : List ℕ → List Reply → List (List ℕ)
  pub ends : List ℕ → SessionEnd

-- What a session does for one input: the events that it asks, and the texts that it sends for the
-- replies to them.
pub record Work : Type 0 where
  pub asks : List Event
  pub sends : List Reply → List (List ℕ)

-- the plan of a new session, whose management client has this password
abbrev pub plan_of : List ℕ → Plan
plan_of password = record { asks = Asks password; sends = Answers password; ends = end_of }

-- the plan of a session for further input
abbrev pub remaining_plan : Session → Plan
remaining_plan s = record { asks = still_asks s; sends = still_sends s; ends = still_ends s }

-- the work for an input
abbrev pub work_for : Plan → List ℕ → Work
work_for plan input = record { asks = plan.asks input; sends = plan.sends input }

-- ---- how much of it was done

-- a text that is written unchanged
abbrev pub as_bytes : List ℕ → List ℕ
as_bytes text = text

-- whether these texts were written, one after the other
abbrev pub WritesTexts : (List ℕ → List ℕ) → List (List ℕ) → Output → Output → Type 0
WritesTexts written_as texts before after =
    Appends before.written after.written (flat_map written_as texts)

module _ {M : Type 0}
    (steps : M → Event → Result Reply CallFault → M → Type 0)
    (written_as : List ℕ → List ℕ) where
  -- whether all events were asked, and all answers to their replies were written
  pub record DoesAll (work : Work) (before after : Outlets M) : Type 0 where
    pub replies : List Reply
    pub replied : RepliesTo steps before.meter work.asks replies after.meter
    pub wrote : WritesTexts written_as (work.sends replies) before.output after.output

  -- whether memory ran out: the first of the events were asked, the last of which may have been
  -- refused, and the first of the answers to their replies were written
  pub record StopsShort (work : Work) (before after : Outlets M) : Type 0 where
    pub asked : List Event
    pub later : List Event
    pub all_asked : work.asks ≡ asked ++ later
    pub replies : List Reply
    pub replied : RepliesTo steps before.meter asked replies after.meter
        ⊎ RefusesLast steps before.meter asked replies call.Memory after.meter
    pub sent : List (List ℕ)
    pub unsent : List (List ℕ)
    pub all_sent : work.sends replies ≡ sent ++ unsent
    pub wrote : WritesTexts written_as sent before.output after.output

  -- whether the meter took the first of the events and refused the next with this fault, and all
  -- answers to its replies were written
  pub record IsRefused (fault : CallFault) (work : Work) (before after : Outlets M) : Type 0 where
    pub asked : List Event
    pub later : List Event
    pub all_asked : work.asks ≡ asked ++ later
    pub replies : List Reply
    pub refused : RefusesLast steps before.meter asked replies fault after.meter
    pub wrote : WritesTexts written_as (work.sends replies) before.output after.output

  -- whether a write failed, after the first of the events were asked
  pub record IsUnwritten (work : Work) (before after : Outlets M) : Type 0 where
    pub asked : List Event
    pub later : List Event
    pub all_asked : work.asks ≡ asked ++ later
    pub replies : List Reply
    pub replied : RepliesTo steps before.meter asked replies after.meter
    pub failed : before.output.failures < after.output.failures

  -- whether a session stopped early with this fault
  abbrev pub Stops : Work → Outlets M → ServeFault → Outlets M → Type 0
  Stops work before fault.Read after = ⊥
  Stops work before fault.Write after = IsUnwritten work before after
  Stops work before fault.Memory after = StopsShort work before after
  Stops work before fault.Exhausted after = IsRefused call.Exhausted work before after
  Stops work before fault.Listen after = ⊥
  Stops work before fault.Journal after = IsRefused call.Journal work before after

-- ---- the reads

-- the largest number of reads in a session
abbrev pub max_reads : ℕ
max_reads = 4294967295

-- the largest number of bytes that one read returns
abbrev pub longest_piece : ℕ
longest_piece = 1024

-- whether no read followed the one that completed an invalid header
pub record StopsAtHeader (seen : List ℕ) : Type 0 where
  pub earlier : List ℕ
  pub last : List ℕ
  pub all : seen ≡ earlier ++ last
  pub short : length last ≤ longest_piece
  pub ends : EndsWithInput (end_of earlier)

-- whether the bytes arrived in pieces, one for each successful read, including the empty one at the
-- end of the input
pub record Pieces (seen : List ℕ) (before after : Input) : Type 0 where
  pub count : ℕ
  pub most : count ≤ max_reads
  pub short : length seen ≤ count * longest_piece
  pub counted : after.reads ≡ before.reads + count

-- whether a read failed or the largest number of reads was made
abbrev pub ReadsNoMore : Input → Input → Type 0
ReadsNoMore before after =
    (before.failures < after.failures) ⊎ (before.reads + max_reads ≤ after.reads)

-- whether a session may end in this way with these bytes left: the input must have ended, unless an
-- invalid header ended the session
abbrev pub EndsBefore : SessionEnd → Option (List ℕ) → Type 0
EndsBefore ending.Closed left = IsAtEnd left
EndsBefore ending.Cut left = IsAtEnd left
EndsBefore ending.BadVersion left = ⊤
EndsBefore ending.TooLong left = ⊤

-- ---- a whole session

module _ {M : Type 0} (steps : M → Event → Result Reply CallFault → M → Type 0) where
  -- whether this is the effect of the bytes that were read, by the result
  abbrev pub HasEffect : Plan → List ℕ → Sides M → Result SessionEnd ServeFault → Sides M → Type 0
  HasEffect plan seen before (Ok end) after =
      DoesAll steps as_bytes (work_for plan seen) before.outlets after.outlets
      × (end ≡ plan.ends seen) × EndsBefore end after.input.left
  HasEffect plan seen before (Err fault.Read) after =
      DoesAll steps as_bytes (work_for plan seen) before.outlets after.outlets
      × ReadsNoMore before.input after.input
  HasEffect plan seen before (Err fault.Write) after =
      IsUnwritten steps as_bytes (work_for plan seen) before.outlets after.outlets
  HasEffect plan seen before (Err fault.Memory) after =
      StopsShort steps as_bytes (work_for plan seen) before.outlets after.outlets
  HasEffect plan seen before (Err fault.Exhausted) after =
      IsRefused steps as_bytes call.Exhausted (work_for plan seen) before.outlets after.outlets
  HasEffect plan seen before (Err fault.Listen) after = ⊥
  HasEffect plan seen before (Err fault.Journal) after =
      IsRefused steps as_bytes call.Journal (work_for plan seen) before.outlets after.outlets

  -- whether serving a session has this result: some bytes were read, with this effect
  pub record ServesSession (password : List ℕ) (before : Sides M)
      (result : Result SessionEnd ServeFault) (after : Sides M) : Type 0 where
    pub seen : List ℕ
    pub read : Consumes before.input.left after.input.left seen
    pub effect : HasEffect (plan_of password) seen before result after
    pub stops : StopsAtHeader seen
    pub pieces : Pieces seen before.input after.input
