pub mod Lists
pub mod StepsKeep
pub mod Counting
pub mod Sent
pub mod Bounds
pub mod Watching
