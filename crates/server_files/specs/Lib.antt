-- What the contracts of the journal and the relay file of `meter_server serve` refer to.
pub mod Faults
pub mod Journals
pub mod Paths
