pub mod Firing
mod FitRuns
mod Meaning
pub mod Opening
mod Skipping
