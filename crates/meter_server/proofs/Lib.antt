pub mod JournalLemmas
pub mod PortLemmas
pub mod ServingAllLemmas
pub mod SessionLemmas
