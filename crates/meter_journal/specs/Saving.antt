-- What a file holds of the lines of a history, also if it was renewed since.
--     IsSaved        the lines that it had first, followed by a front of the lines of the history
--     IsSavedFrom    these, with a front of at least a number of lines
--     IsFileOf       a file with a number, and the lines that it has
--     IsSynced       a sync of a file returned while it had the first lines of a history
--     AreOnDisk      it did so, if files of its type act as the crash model has them
--     AreStored      the first lines of the history of a lock are on the disk
--     Leaves         what the worker of a journal leaves of its file
--     Keeps          what the worker of a journal does
use Rattle.std.specs.Prelude.{◌≡◌, ℕ, ◌≤◌, List, length, take, IfErr, IfOk, IfSome, OnOk, Option}
use Rattle.std.specs.Prelude.{Some, Result}
use Rattle.durable_lines.specs.CrashModel.{LeavesOnly}
use Rattle.durable_lines.specs.FileModel.{FileModel}
use Rattle.durable_lines.specs.Holding.{Holds}
use Rattle.durable_lines.specs.Lines.{lines_in}
use Rattle.relay_core.specs.declared.opening.Opening.{Opening}
use Rattle.meter_journal.specs.Faults.{FailsFor}
use Rattle.meter_journal.specs.Relaying.{IsRelayed, OnRelay}
use Rattle.meter_journal.specs.declared.fault.JournalFault.{JournalFault}
use Rattle.meter_journal.specs.declared.journal.JournalEnd.{JournalEnd}
use Rattle.meter_journal.specs.declared.journal.JournalParts.{JournalParts}
use Rattle.turn_lock.specs.Calls.{Watches}
use Rattle.turn_lock.specs.Shown.{IsSame}
use Rattle.shared_meter.specs.Calls.{Calls, IsLegal}
use Rattle.shared_meter.specs.Handed.{MeterPort}
use Rattle.shared_meter.specs.Pending.{lines_of_calls}

-- whether the file holds the lines that it had first, followed by the first n lines of the history
pub record IsSaved (Renews : List ℕ → List ℕ → Type 0) (first : List (List ℕ)) (n : ℕ)
    (calls : Calls) (file : List ℕ) : Type 0 where
  pub within : n ≤ length (lines_of_calls calls)
  pub lines : Holds Renews first (take n (lines_of_calls calls)) file

-- whether a file holds the lines that it had first, followed by at least `from` lines of the
-- history
abbrev pub IsSavedFrom : (List ℕ → List ℕ → Type 0) → ℕ → List (List ℕ) → Calls → List ℕ → Type 0
IsSavedFrom Renews from first calls file = (n : ℕ) × (from ≤ n) × IsSaved Renews first n calls file

-- whether a file holds the lines that it had first, followed by all lines of the history
abbrev pub IsAllSaved : (List ℕ → List ℕ → Type 0) → List (List ℕ) → Calls → List ℕ → Type 0
IsAllSaved Renews first calls file =
    IsSaved Renews first (length (lines_of_calls calls)) calls file

-- whether this is the file with the number, and has these lines
pub record IsFileOf {F : Type 0} (model : FileModel F) (number : ℕ) (first : List (List ℕ))
    (file : F) : Type 0 where
  pub number_is : model.identity file ≡ number
  pub lines : lines_in (model.seen file) ≡ first

-- Whether a sync of the file with this number returned while it held the lines that it had first,
-- followed by the first n lines of the history.
pub record IsSynced {F : Type 0} (model : FileModel F) (number : ℕ) (first : List (List ℕ))
    (calls : Calls) (n : ℕ) : Type 0 where
  pub file : List ℕ
  pub kept : model.stored number file
  pub saved : IsSaved model.renews first n calls file

-- whether the first n lines of these calls are on the disk, after those that the file had first, if
-- files of its type act as the crash model has them
abbrev pub AreOnDisk : {F : Type 0} → FileModel F → (number : ℕ) → (first : List (List ℕ))
    → Calls → ℕ → Type 0
AreOnDisk model number first calls n = model.acts → IsSynced model number first calls n

-- whether the first n lines of a legal history are on the disk
pub record AreStored {F : Type 0} (model : FileModel F) (number : ℕ) (first : List (List ℕ))
    (n : ℕ) : Type 0 where
  pub origin : Opening
  pub calls : Calls
  pub lawful : IsLegal origin calls
  pub on_disk : AreOnDisk model number first calls n

-- Whether the file is the same one after the worker's run, and a crash at any moment of the run
-- leaves a file that holds the lines that it had first, followed by a front of the lines of the
-- history. If the worker ended as it was asked to, every later crash leaves all lines.
pub record Leaves {F : Type 0} (model : FileModel F) (began ended : F) (calls : Calls)
    (saved : Result ℕ JournalFault) : Type 0 where
  pub one_file : model.identity ended ≡ model.identity began
  pub any_moment : LeavesOnly model began ended
      (IsSavedFrom model.renews 0 (lines_in (model.seen began)) calls)
  pub all : OnOk saved ((c : List ℕ) → model.may_leave ended c
      → IsAllSaved model.renews (lines_in (model.seen began)) calls c)

-- Whether the journal's worker, whose port was p and is q, ended in this way, and made no call. It
-- ended without a fault only if the journal may end, which it learns by being asked to stop, and
-- then returned the number of lines of the history. Its fault is that of a save: `Turns` only if q
-- has read that all turns were drawn, and `Failed` only if the file has failed; the action for
-- failures was called with it. The file is left as `Leaves` states if files of its type act as the
-- crash model has them, and the relay was given what `IsRelayed` states, if it had been given no
-- change before.
pub record Keeps {F W : Type 0} (model : FileModel F) (contents : W → Option (List ℕ))
    (MayEnd : Type 0) (HasActed : JournalFault → Type 0) (began : JournalParts F W)
    (p q : MeterPort) (end : JournalEnd F W) : Type 0 where
  pub same : IsSame p q
  pub watches : Watches IsLegal p.known q.known
  pub one_file : model.identity end.parts.file ≡ model.identity began.file
  pub may_end : OnOk end.saved MayEnd
  pub counted : IfOk end.saved (λ count. count ≡ length (lines_of_calls q.known.seen))
  pub acted : IfErr end.saved HasActed
  pub cause : IfErr end.saved
      (FailsFor (q.bound ≤ q.known.drawn) (model.has_failed end.parts.file))
  pub leaves : model.acts → Leaves model began.file end.parts.file q.known.seen end.saved
  pub relayed : (origin : Opening) → q.known.origin ≡ Some origin
      → IfSome began.relay (λ relay. relay.given ≡ 0)
      → OnRelay (IsRelayed contents (AreOnDisk model (model.identity began.file)
      (lines_in (model.seen began.file))) origin q.known.seen end.saved)
      began.relay end.parts.relay
