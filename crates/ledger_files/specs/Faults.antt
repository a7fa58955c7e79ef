-- The fault for an error of SQLite while the file of answers is opened.
--     answers_fault     that of a ledger's file, but for what is not a database of answers
use Rattle.sqlite.specs.declared.error.Error.{Error}
use Rattle.sqlite_ledger.specs.OpenFaults.{fault_for}
use Rattle.sqlite_ledger.specs.declared.open_fault.LedgerOpenFault.{LedgerOpenFault}
use Rattle.sqlite_ledger.specs.declared.open_fault.LedgerOpenFault.TheVariants.{NotALedger, Answers}

-- `Answers` instead of `NotALedger`, and any other fault as it is
abbrev pub answers_instead : LedgerOpenFault → LedgerOpenFault
answers_instead NotALedger = Answers
answers_instead fault = fault

-- the fault for an error of SQLite while the file of answers is opened
abbrev pub answers_fault : Error → LedgerOpenFault
answers_fault error = answers_instead (fault_for error)
