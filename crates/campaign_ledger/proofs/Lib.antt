pub mod GrantLemmas
pub mod MemoryLemmas
pub mod RunLemmas
