-- The fault for an error of SQLite while a ledger is opened.
use Rattle.sqlite.specs.declared.error.Error.{Error}
use Rattle.sqlite.specs.declared.error.Error.TheVariants.{SqliteFailure, InvalidColumnType}
use Rattle.sqlite.specs.declared.error.Error.TheVariants.{IntegralValueOutOfRange, Utf8Error}
use Rattle.sqlite.specs.declared.error.ErrorCode.TheVariants as code
use Rattle.sqlite_ledger.specs.declared.open_fault.LedgerOpenFault.{LedgerOpenFault}
use Rattle.sqlite_ledger.specs.declared.open_fault.LedgerOpenFault.TheVariants.{NotALedger, Busy}
use Rattle.sqlite_ledger.specs.declared.open_fault.LedgerOpenFault.TheVariants.{File, Memory}

-- the fault for an error of SQLite: a value of a row that no ledger has, or a file that is no
-- database, is that of no ledger
abbrev pub fault_for : Error → LedgerOpenFault
fault_for (SqliteFailure code.NotADatabase) = NotALedger
fault_for (SqliteFailure code.DatabaseBusy) = Busy
fault_for (SqliteFailure code.OutOfMemory) = Memory
fault_for (InvalidColumnType at found) = NotALedger
fault_for (IntegralValueOutOfRange at) = NotALedger
fault_for (Utf8Error at) = NotALedger
fault_for _ = File
