-- Why a journal fails, and why it ends.
--     FailsFor          what is known of a save that failed with a fault
--     AreTurnsDrawn     a port has read that all turns of its lock were drawn
--     HasFileFailed     the file with a number has failed
--     IsSaveFault       a save of the lines of a lock to a file may fail with this fault
--     EndsFor           why a journal ended
use Rattle.std.specs.Prelude.{◌≡◌, ◌⊎◌, ⊤, ℕ, ◌≤◌}
use Rattle.atomic_table.specs.Seated.{TableId}
use Rattle.durable_lines.specs.FileModel.{FileModel}
use Rattle.durable_lines.specs.declared.fault.FileFault.TheVariants.{Failed}
use Rattle.meter_journal.specs.declared.fault.JournalFault.{JournalFault}
use Rattle.meter_journal.specs.declared.fault.JournalFault.TheVariants.{Turns, File}
use Rattle.shared_meter.specs.Handed.{MeterPort}

-- Whether a save may have failed with this fault: with `Turns` if all turns were drawn, and with
-- `Failed` if the file has failed. Nothing is claimed of the other faults, which are `Lines`, as
-- nothing is claimed of an incomplete finding, the file's `TooLong` and `Memory`, and `Relay`.
abbrev pub FailsFor : (drawn failed : Type 0) → JournalFault → Type 0
FailsFor drawn failed Turns = drawn
FailsFor drawn failed (File Failed) = failed
FailsFor drawn failed _ = ⊤

-- whether a port of this lock has read that all turns of the lock's bound were drawn
abbrev pub AreTurnsDrawn : TableId → Type 0
AreTurnsDrawn lock = (port : MeterPort) × (port.lock ≡ lock) × (port.bound ≤ port.known.drawn)

-- whether the file with this number has failed
abbrev pub HasFileFailed : {F : Type 0} → FileModel F → (number : ℕ) → Type 0
HasFileFailed {F} model number =
    (file : F) × (model.identity file ≡ number) × model.has_failed file

-- whether a save of the lines of this lock to the file with this number may have failed with this
-- fault
abbrev pub IsSaveFault : {F : Type 0} → FileModel F → (number : ℕ) → (lock : TableId)
    → JournalFault → Type 0
IsSaveFault model number lock =
    FailsFor (AreTurnsDrawn lock) (HasFileFailed model number)

-- whether a journal was asked to stop, or has failed with a fault that it may have
abbrev pub EndsFor : (MayStop : Type 0) → (MayFail : JournalFault → Type 0) → Type 0
EndsFor MayStop MayFail = MayStop ⊎ ((fault : JournalFault) × MayFail fault)
