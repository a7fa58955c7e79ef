pub mod BlockLemmas
pub mod CallLemmas
pub mod HandedLemmas
pub mod PassingLemmas
pub mod PendingLemmas
pub mod Sent
pub mod SettlingLemmas
pub mod SourceLemmas
