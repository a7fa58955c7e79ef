pub mod FaultLemmas
pub mod KeepingLemmas
pub mod OutputLemmas
pub mod ProgressLemmas
pub mod RelayLemmas
pub mod RelayedLemmas
pub mod SavingLemmas
pub mod SwitchLemmas
