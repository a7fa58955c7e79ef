pub mod Idle
pub mod Keys
