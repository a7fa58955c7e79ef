-- What the contracts of the console of a served meter refer to.
pub mod Clocks
pub mod Console
pub mod Ends
pub mod Lines
pub mod Queues
pub mod Reported
