-- What the contracts of the lines of a trace refer to: words, labels, line numbers and faults.
pub mod Labels
pub mod Numbers
pub mod Parts
pub mod Places
pub mod Reading
pub mod Rows
pub mod WholeLines
pub mod Writing
