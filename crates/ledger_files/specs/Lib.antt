-- What the contracts of a ledger in an SQLite file, of campaigns on it, and of the answers next to
-- it refer to.
pub mod Answered
pub mod Asked
pub mod Closings
pub mod Faults
pub mod Opened
pub mod Reading
pub mod Runs
