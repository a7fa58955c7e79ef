pub mod Days
pub mod Floats
