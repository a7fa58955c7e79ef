-- What the contracts of the meter for C refer to: handles, exported functions and result codes.
pub mod Exports
pub mod Held
pub mod Kept
pub mod Outcomes
