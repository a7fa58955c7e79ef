-- What the contracts of one connection of a fleet refer to.
pub mod Addresses
pub mod Serving
pub mod Steps
pub mod Streams
pub mod Turns
