pub mod Again
pub mod Falling
pub mod Parts
pub mod Times
