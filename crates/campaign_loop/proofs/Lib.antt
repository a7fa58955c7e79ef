pub mod Keeping
pub mod Filling
pub mod Running
