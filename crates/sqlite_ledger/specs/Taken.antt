-- What a book makes of SQLite's errors.
--     is_taken          the error of an INSERT whose key is taken
--     fault_of          the fault of a book for an error that ends it
use Rattle.std.specs.Prelude.{Bool, true, false}
use Rattle.sqlite.specs.declared.error.Error.{Error}
use Rattle.sqlite.specs.declared.error.Error.TheVariants.{SqliteFailure}
use Rattle.sqlite.specs.declared.error.ErrorCode.TheVariants.{ConstraintViolation, OutOfMemory}
use Rattle.sqlite_schema.specs.declared.schema.Constraint.TheVariants.{PrimaryKey}
use Rattle.campaign_ledger.specs.declared.fault.LedgerFault.{LedgerFault}
use Rattle.campaign_ledger.specs.declared.fault.LedgerFault.TheVariants.{Failed, Memory}

-- whether an error says that a row with this key is already in the table
abbrev pub is_taken : Error → Bool
is_taken (SqliteFailure (ConstraintViolation PrimaryKey)) = true
is_taken _ = false

-- the fault of a book for an error that ends it: out of memory, or a failure of its storage
abbrev pub fault_of : Error → LedgerFault
fault_of (SqliteFailure OutOfMemory) = Memory
fault_of _ = Failed
