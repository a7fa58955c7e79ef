pub mod AppendedStates
pub mod NextRun
pub mod ReadStates
