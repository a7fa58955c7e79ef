-- One run of a meter that may have a journal.
--     IsOnDisk            lines of a history that are on the disk
--     session_steps       the steps of a session's port
--     parts_in            the file and the relay of a journal
--     AnyEnd              that a journal has ended
--     first_port          how many ports were split off before those of the sources
--     IsKept              what a crash leaves of the journal's file
--     IsRun               a run
--     Runs                how a run ended, with or without the text of its trace
--     IsStarted           the port of the journal's worker
--     CanFail             why the journal may have failed
--     ActsOnFailure       what is done if the journal fails, and with which fault
--     fault_of_lines      the fault of a journal that has some of the lines
--     fault_of_worker     the fault of a journal whose worker was started
--     fault_of_journal    the fault of a journal
--     parts_of_journal    the file and the relay that its worker returns
--     IsFinished          how a run ends
use Rattle.std.specs.Prelude.{◌≡◌, ℕ, List, [], ◌∷◌, Option, Some, None, Result, Ok, Err, length}
use Rattle.std.specs.Prelude.{if◌then◌else◌, ◌==◌}
use Rattle.std.specs.Prelude.{⊤, ◌⊎◌, IfErr, IfOk, IfSome, IsErrOf, IsSome, IsSomeAnd, OnOk}
use Rattle.durable_lines.specs.CrashModel.{LeavesOnly}
use Rattle.durable_lines.specs.FileModel.{FileModel}
use Rattle.durable_lines.specs.Lines.{lines_in}
use Rattle.meter_journal.specs.Faults.{EndsFor, FailsFor}
use Rattle.meter_journal.specs.Relaying.{IsRelayed, OnRelay}
use Rattle.meter_journal.specs.Saving.{AreOnDisk, IsAllSaved, IsSavedFrom}
use Rattle.meter_journal.specs.declared.fault.JournalFault.{JournalFault}
use Rattle.meter_journal.specs.declared.journal.JournalEnd.{JournalEnd}
use Rattle.meter_journal.specs.declared.journal.JournalParts.{JournalParts}
use Rattle.meter_journal.specs.declared.journal.MeterJournal.{MeterJournal}
use Rattle.meter_run.specs.Closing.{FindsTurn}
use Rattle.meter_run.specs.Runs.{IsLeftOpen, IsRunFrom, StartsFrom, Traces}
use Rattle.meter_run.specs.declared.running.MeterRun.{MeterRun}
use Rattle.meter_server.specs.Journaled.{JournalSteps}
use Rattle.meter_server.specs.Ports.{PortSteps}
use Rattle.meter_server.specs.Sessions.{ServesClient}
use Rattle.meter_server.specs.WithSources.{Forecasts}
use Rattle.meter_server.specs.declared.serving_all.Served.{Served}
use Rattle.port_threads.specs.Workers.{ReturnsPort}
use Rattle.program.specs.declared.fault.Fault.{Fault}
use Rattle.program.specs.declared.fault.Fault.TheVariants as fault
use Rattle.program.specs.declared.fault.Fault.TheVariants.{Memory, Turns, Write}
use Rattle.relay_core.specs.Opening.{opening_of}
use Rattle.relay_core.specs.declared.opening.Opening.{Opening}
use Rattle.relay_events.specs.declared.event.Event.{Event}
use Rattle.relay_events.specs.declared.reply.Reply.{Reply}
use Rattle.relay_recorder.specs.Recording.{Recording}
use Rattle.session_io.specs.declared.fault.ServeFault.{ServeFault}
use Rattle.shared_meter.specs.Calls.{Calls, IsLegal}
use Rattle.shared_meter.specs.Handed.{MeterPort}
use Rattle.shared_meter.specs.Pending.{lines_of_calls}
use Rattle.turn_lock.specs.Calls.{Watches}
use Rattle.turn_lock.specs.Shown.{IsSame}
use Rattle.turn_lock.specs.History.{calls_by}
use Rattle.turn_lock.specs.declared.call_fault.CallFault.{CallFault}

-- the file and the relay of a journal, if there is one
abbrev pub parts_in : {F W A : Type 0} → Option (MeterJournal F W A) → Option (JournalParts F W)
parts_in None = None
parts_in (Some journal) = Some journal.parts

-- the number of ports that were split off before those of the sources: that of the journal's
-- worker, if there is a journal
abbrev pub first_port : {P : Type 0} → Option P → ℕ
first_port None = 0
first_port (Some parts) = 1

-- that a journal has ended, for whatever reason: it may have been asked to stop at any time, and
-- may have failed with any fault
abbrev pub AnyEnd : Type 0
AnyEnd = EndsFor ⊤ (λ fault. ⊤)

-- whether a journal may have failed with this fault: with `Failed` only if the file that the run
-- returned has failed
abbrev pub CanFail : {F W : Type 0} → FileModel F → Option (JournalParts F W) → JournalFault
    → Type 0
CanFail {F = F} {W = W} model ended =
    FailsFor ⊤ (IsSomeAnd ended (λ (parts : JournalParts F W). model.has_failed parts.file))

-- whether the action for failures was called, if the journal has failed, with a fault that it could
-- have
abbrev pub ActsOnFailure : (HasActed CanFail : JournalFault → Type 0) → Result (Unit {0}) Fault
    → Type 0
ActsOnFailure HasActed CanFail (Err fault.Write) =
    (why : JournalFault) × HasActed why × CanFail why
ActsOnFailure HasActed CanFail _ = ⊤

module _ {F : Type 0} (model : FileModel F) where
  -- whether a sync of a journal's file returned while it had the lines that it had first, followed
  -- by the first n lines of these calls, if the file acts as the crash model has it
  abbrev pub IsOnDisk : F → Calls → ℕ → Type 0
  IsOnDisk file = AreOnDisk model (model.identity file) (lines_in (model.seen file))

  -- a step of a session's port: with a journal the answer waits until the lines of all calls that
  -- the port has seen are on the disk
  abbrev pub session_steps : {W : Type 0} → (HasEnded : Type 0) → Option (JournalParts F W)
      → MeterPort → Event → Result Reply CallFault → MeterPort → Type 0
  session_steps HasEnded None = PortSteps
  session_steps HasEnded (Some parts) = JournalSteps (IsOnDisk parts.file) HasEnded (λ _. ⊤)

  -- Whether a journal's file is what a run with these calls left of it. A crash at any moment up to
  -- now leaves a file that holds the lines that it had first, followed by a front of the lines of
  -- the calls, however often it was renewed. If the journal has not failed, every crash after the
  -- run leaves all lines of the calls.
  pub record IsKept (began : F) (calls : Calls) (journal : Result (Unit {0}) Fault) (now : F)
      : Type 0 where
    pub one_file : model.identity now ≡ model.identity began
    pub any_moment : LeavesOnly model began now
        (IsSavedFrom model.renews 0 (lines_in (model.seen began)) calls)
    pub all : OnOk journal ((c : List ℕ) → model.may_leave now c
        → IsAllSaved model.renews (lines_in (model.seen began)) calls c)

  -- Whether this is what a run with these calls left of a journal: of its file, if files of its
  -- type act as the crash model has them, and of its relay. The relay was given the changes of the
  -- supply output by a front of the calls whose lines are on the disk, and, if the journal has not
  -- failed, by all calls.
  pub record Leaves {W : Type 0} (contents : W → Option (List ℕ)) (origin : Opening)
      (calls : Calls) (journal : Result (Unit {0}) Fault) (began ended : JournalParts F W) : Type 0
    where
      pub kept : model.acts → IsKept began.file calls journal ended.file
      pub relayed : OnRelay (IsRelayed contents (IsOnDisk began.file) origin calls journal)
          began.relay ended.relay

  module _ {W I O : Type 0} (contents : W → Option (List ℕ)) (remaining : I → Option (List ℕ))
      (written : O → Option (List ℕ)) (HasEnded : Type 0) (began : Option (JournalParts F W))
      (recorder : Recording) (password : List ℕ) (sources : Forecasts) where
    -- the work of a session: it reads a client's bytes and writes the answers to it, and each call
    -- of its port is one of the `session_steps`
    abbrev pub RunServes : MeterPort → MeterPort → Type 0
    RunServes = ServesClient remaining written (session_steps HasEnded began) password

    -- Whether this is a run of the meter with this recorder. Each session works as `RunServes`
    -- says. With a journal the first port that was split off is that of its worker. The run returns
    -- the journal's file and its relay, also if the journal has failed, unless its worker was not
    -- started.
    pub record IsRun (served : Result Served ServeFault) (journal : Result (Unit {0}) Fault)
        (ended : Option (JournalParts F W)) (text : List ℕ) : Type 0 where
      pub run : IsRunFrom (first_port began) RunServes recorder sources served text
      pub returned : IfSome began (λ _. OnOk journal (IsSome ended))
      pub leaves : IfSome began (λ parts. IfSome ended
          (Leaves contents (opening_of recorder.core) run.calls journal parts))

    -- Whether a run ended in this way, and the action for failures was called if its journal has
    -- failed. Its trace has no text if a turn was still out then, or out of memory.
    pub record Runs (HasActed : JournalFault → Type 0) (end : MeterRun F W) : Type 0 where
      pub run : IfOk end.trace (IsRun end.served end.journal end.parts)
      pub no_text : IfErr end.trace (λ why. (why ≡ Turns) ⊎ (why ≡ Memory))
      pub still_out : IsErrOf end.trace Turns
          → IsLeftOpen (first_port began) RunServes recorder sources end.served
      pub journal : IfErr end.journal (λ why. (why ≡ Write) ⊎ (why ≡ Memory))
      pub acted : ActsOnFailure HasActed (CanFail model end.parts) end.journal

-- whether the port `lent`, which has made no call, was split off from the first port of a lock,
-- whose later state is p, before any other
pub record IsStarted (origin : Opening) (lent p : MeterPort) : Type 0 where
  pub starts : StartsFrom 1 origin p
  pub lock : lent.lock ≡ p.lock
  pub origin_is : lent.known.origin ≡ Some origin
  pub number : lent.known.number ≡ 0 ∷ []
  pub unsplit : lent.known.splits ≡ 0
  pub fresh : calls_by lent.known.number lent.known.seen ≡ []

-- the fault of a journal whose worker has saved this number of lines, by the number of lines of the
-- run, if that is known: none if these are all
abbrev pub fault_of_lines : ℕ → Option ℕ → Result (Unit {0}) Fault
fault_of_lines count None = Err fault.Memory
fault_of_lines count (Some lines) = if count == lines then Ok tt else Err fault.Memory

-- the fault of a journal by the result of its worker, and by the number of lines of the run
abbrev pub fault_of_worker : Result ℕ JournalFault → (lines : Option ℕ) → Result (Unit {0}) Fault
fault_of_worker (Ok count) lines = fault_of_lines count lines
fault_of_worker (Err stopped) lines = Err fault.Write

-- the same by the end of the worker, or by its absence
abbrev pub fault_of_journal : {F W : Type 0} → Option (JournalEnd F W) → (lines : Option ℕ)
    → Result (Unit {0}) Fault
fault_of_journal None lines = Err fault.Memory
fault_of_journal (Some end) lines = fault_of_worker end.saved lines

-- the file and the relay that the worker of a journal has returned
abbrev pub parts_of_journal : {F W : Type 0} → Option (JournalEnd F W) → Option (JournalParts F W)
parts_of_journal None = None
parts_of_journal (Some end) = Some end.parts

-- Whether the port that was lent to the journal's worker was joined into the port `before`. Then
-- the lines of the history were counted, and the trace was written. The result of the journal is
-- that of its worker, unless the numbers of lines differ.
pub record IsFinished {F W : Type 0} (did : MeterPort → MeterPort → JournalEnd F W → Type 0)
    (lent before : MeterPort) (trace : Result (List ℕ) Fault) (journal : Result (Unit {0}) Fault)
    (ended : Option (JournalParts F W)) : Type 0 where
  pub end : Option (JournalEnd F W)
  pub lines : Option ℕ
  pub fault : journal ≡ fault_of_journal end lines
  pub parts : ended ≡ parts_of_journal end
  pub joined : MeterPort
  pub back : ReturnsPort did lent end before joined
  pub after : MeterPort
  pub same : IsSame joined after
  pub watches : Watches IsLegal joined.known after.known
  pub counted : IfSome lines (λ count. count ≡ length (lines_of_calls after.known.seen))
  pub traces : IfOk trace (Traces after.known)
  pub still_out : IsErrOf trace Turns → FindsTurn after.known
