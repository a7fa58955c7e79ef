-- The beginning and the end of a program.
use Rattle.std.specs.Prelude.{ℕ, Bool, true, false, codes, List, ◌++◌, Option, Some, None, Result, Ok, Err}
use Rattle.clap.specs.declared.error.kind.ErrorKind.{ErrorKind}
use Rattle.clap.specs.declared.error.kind.ErrorKind.TheVariants.{DisplayHelp, DisplayVersion, MissingRequiredArgument}
use Rattle.program.specs.Statuses.{status_of}
use Rattle.program.specs.declared.fault.Fault.{Fault}
use Rattle.program.specs.declared.fault.Fault.TheVariants.{Input, Read, Write, Listen, Memory, Turns}

-- whether a fault can result from reading the command line: out of memory, or a word that is not
-- valid text
abbrev pub is_of_words : Fault → Bool
is_of_words Input = true
is_of_words Memory = true
is_of_words _ = false

-- whether a fault can result from printing a text: out of memory, or a failed write
abbrev pub is_of_texts : Fault → Bool
is_of_texts Write = true
is_of_texts Memory = true
is_of_texts _ = false

-- the exit status of a command line without work: 0 for help and the version; 2 for any other text,
-- which reports a wrong command line
abbrev pub status_without_work : ErrorKind → ℕ
status_without_work DisplayHelp = 0
status_without_work DisplayVersion = 0
status_without_work _ = 2

-- the line about a command line without a password, the one argument that is required
abbrev pub password_line : ErrorKind → Option (List ℕ)
password_line MissingRequiredArgument =
    Some (codes "password: expected --password, --password-file or the variable METER_PASSWORD")
password_line _ = None

-- the program's own exit status, or that of its fault
abbrev pub status_by : Result ℕ Fault → ℕ
status_by (Ok status) = status
status_by (Err fault) = status_of fault

-- the word of a fault
abbrev pub word_of : Fault → List ℕ
word_of Input = codes "input"
word_of Read = codes "read"
word_of Write = codes "write"
word_of Listen = codes "listen"
word_of Memory = codes "memory"
word_of Turns = codes "turns"

-- the line that reports a fault
abbrev pub fault_line : Fault → List ℕ
fault_line fault = codes "fault: " ++ word_of fault

-- the first fault of two parts of the work
abbrev pub first_of : Result (Unit {0}) Fault → Result (Unit {0}) Fault → Result (Unit {0}) Fault
first_of (Err fault) second = Err fault
first_of (Ok done) second = second
