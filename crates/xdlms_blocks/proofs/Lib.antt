pub mod SendingLemmas
pub mod BlockLemmas
