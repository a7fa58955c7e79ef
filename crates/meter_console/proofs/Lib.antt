pub mod Handing
pub mod LineLemmas
pub mod Shorts
