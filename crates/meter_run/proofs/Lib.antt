pub mod JournaledLemmas
pub mod RunLemmas
