-- What the contracts of threads that each have a port of one lock refer to.
pub mod Listening
pub mod Ports
pub mod Sessions
pub mod Workers
