-- Saves of a journal, one after another, and what a crash after an answer leaves of them.
--     Stand                a file, and how many lines of a history it holds
--     RenewsJournals       files of a type are renewed as journals are
--     IsSave               what a save promises, whatever it returned
--     count_after          the number of lines that are counted after a save
--     AreSaves             a number of saves, one after another
--     ContinuesAnswered    a meter that continues a front of a run with all calls of a shorter one
use Rattle.std.specs.Prelude.{◌≡◌, ℕ, zero, suc, ◌≤◌, List, Result, Ok, Err}
use Rattle.crashed_runs.specs.Answers.{changing_calls}
use Rattle.crashed_runs.specs.Fronts.{ContinuesFront}
use Rattle.durable_lines.specs.CrashModel.{LeavesOnly}
use Rattle.durable_lines.specs.FileModel.{FileModel}
use Rattle.journal_files.specs.Renewals.{IsRenewedAs}
use Rattle.meter_journal.specs.Saving.{IsSavedFrom}
use Rattle.meter_journal.specs.declared.fault.JournalFault.{JournalFault}
use Rattle.meter_journal.specs.declared.saving.Saved.{Saved}
use Rattle.relay_core.specs.World.{World}
use Rattle.shared_meter.specs.Calls.{Calls}
use Rattle.turn_lock.specs.History.{StartsWith}

-- A file, and the number of lines of a history that it holds.
pub record Stand (F : Type 0) : Type 0 where
  pub file : F
  pub calls : Calls
  pub count : ℕ

-- whether files of this type are renewed as journals are
abbrev pub RenewsJournals : {F : Type 0} → FileModel F → Type 0
RenewsJournals model = (old new : List ℕ) → model.renews old new → IsRenewedAs old new

-- Whether a save of a file led from `old` to `new`. The history is continued, the number of lines
-- held does not fall, and a crash at any moment of the save leaves at least the lines held before
-- it.
pub record IsSave {F : Type 0} (model : FileModel F) (first : List (List ℕ)) (old new : Stand F)
    : Type 0 where
  pub longer : StartsWith new.calls old.calls
  pub more : old.count ≤ new.count
  pub any_moment : LeavesOnly model old.file new.file
      (IsSavedFrom model.renews old.count first new.calls)

-- the number of lines that are counted after a save: those that it reports, or the earlier ones
abbrev pub count_after : (before : ℕ) → Result Saved JournalFault → ℕ
count_after before (Ok saved) = saved.count
count_after before (Err fault) = before

-- whether this number of saves came one after another
abbrev pub AreSaves : {F : Type 0} → FileModel F → (first : List (List ℕ)) → (saves : ℕ)
    → (old new : Stand F) → Type 0
AreSaves model first zero old new = new ≡ old
AreSaves {F = F} model first (suc saves) old new = (between : Stand F)
    × AreSaves model first saves old between × IsSave model first between new

-- Whether the meter in the second world answers as the one after the first calls of a run, which
-- have at least `count` lines. Of the calls that may change the meter, those of the shorter history
-- are among these first calls, before any other.
pub record ContinuesAnswered (count : ℕ) (answered calls : Calls) (origin resumed : World) : Type 0
  where
    pub continues : ContinuesFront count calls origin resumed
    pub kept : StartsWith (changing_calls continues.front) (changing_calls answered)
