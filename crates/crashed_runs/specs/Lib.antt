-- What the laws of runs that a crash ends refer to.
pub mod Answers
pub mod Fronts
pub mod Saves
