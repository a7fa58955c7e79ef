pub mod HistoryLemmas
pub mod Pushed
mod Replayed
