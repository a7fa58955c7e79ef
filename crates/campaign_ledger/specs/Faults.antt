-- The public numbers of the faults of a ledger.
use Rattle.std.specs.Prelude.{ℕ}
use Rattle.campaign_ledger.specs.declared.fault.LedgerFault.{LedgerFault}
use Rattle.campaign_ledger.specs.declared.fault.LedgerFault.TheVariants.{Failed, Memory}

-- the public number of a fault of a ledger, as `u8::from` returns it
abbrev pub fault_number : LedgerFault → ℕ
fault_number Failed = 1
fault_number Memory = 2
