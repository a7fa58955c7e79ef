pub mod Cuts
pub mod Givings
pub mod Showings
pub mod Stepping
pub mod Slicing
