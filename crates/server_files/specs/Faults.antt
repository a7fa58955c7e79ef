-- The faults of a server's files.
--     is_of_opening    a fault of opening a journal or a relay
--     fault_of_start   the fault of the program for a journal that is not begun or resumed
--     IsOfFile         a fault of a file: it could not be used, or out of memory
use Rattle.std.specs.Prelude.{◌≡◌, ◌⊎◌, Bool, true, false}
use Rattle.journal_files.specs.declared.fault.StartFault.{StartFault}
use Rattle.journal_files.specs.declared.fault.StartFault.TheVariants as start
use Rattle.program.specs.declared.fault.Fault.{Fault}
use Rattle.program.specs.declared.fault.Fault.TheVariants.{Input, Write, Memory}

-- whether a fault can result from opening a journal or a relay: it is not that of this meter, a
-- file could not be used, or out of memory
abbrev pub is_of_opening : Fault → Bool
is_of_opening Input = true
is_of_opening Write = true
is_of_opening Memory = true
is_of_opening _ = false

-- the fault of the program for a journal that is not begun or resumed: its text is not that of this
-- meter's journal, its file could not be used, or out of memory
abbrev pub fault_of_start : StartFault → Fault
fault_of_start (start.Line number) = Input
fault_of_start start.TooLong = Input
fault_of_start start.Counted = Input
fault_of_start start.OtherMeter = Input
fault_of_start (start.Damaged at) = Input
fault_of_start start.File = Write
fault_of_start start.Memory = Memory

-- whether a file could not be used, or the program is out of memory
abbrev pub IsOfFile : Fault → Type 0
IsOfFile fault = (fault ≡ Write) ⊎ (fault ≡ Memory)
