pub mod ListLemmas
pub mod RunLemmas
