-- What the contracts of a trace's lines after its opening refer to: events and replies.
pub mod Events
pub mod OpenCount
pub mod Parts
pub mod Reading
pub mod Replies
pub mod Traced
pub mod Writing
