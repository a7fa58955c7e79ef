-- What the contracts of single action schedules (class 22) refer to.
pub mod Attributes
pub mod Fitting
pub mod Forms
pub mod Kinds
pub mod Reading
pub mod Schedule
pub mod Writing
