pub mod Short
pub mod Meet
pub mod Tasks
pub mod Placed
pub mod Shorts
