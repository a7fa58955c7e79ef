-- What the contracts of the console of a fleet refer to.
pub mod Commands
pub mod Running
pub mod Slices
pub mod Steps
