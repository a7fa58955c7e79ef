-- What the contracts of a limiter (class 71) refer to, as it judges samples.
pub mod Counting
pub mod Opening
pub mod Rows
pub mod Settings
pub mod State
