-- What the contracts of the faults of a fleet refer to.
pub mod Delays
pub mod Draws
pub mod FaultyStreams
pub mod Shares
