-- What the contracts of a campaign's ledger refer to: its entries, its permits and its runs.
pub mod Entries
pub mod Faults
pub mod Grants
pub mod Groups
pub mod MemoryBook
pub mod Runs
