-- What the contracts of a value behind a lock refer to: the history of its calls, and its ports.
pub mod Calls
pub mod History
pub mod Numbers
pub mod Plays
pub mod Rule
pub mod Seats
pub mod Shown
pub mod Trials
