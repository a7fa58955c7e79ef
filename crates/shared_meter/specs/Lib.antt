-- What the contracts of a meter that threads share refer to: its calls, and its event sources.
pub mod Blocks
pub mod Calls
pub mod Handed
pub mod KeptRecorder
pub mod Pending
pub mod Settling
pub mod Sources
pub mod Switching
pub mod Thresholds
