-- What the contracts of whole traces refer to: their texts, and what they print when played.
pub mod Exported
pub mod Faults
pub mod Journals
pub mod Numbers
pub mod Playing
pub mod Plays
pub mod Resuming
pub mod RunTraces
pub mod Traces
pub mod Versions
pub mod Written
