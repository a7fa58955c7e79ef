-- What the contracts of the commands of `meter_server` refer to: options, inputs and outputs.
pub mod Apdu
pub mod Asking
pub mod CommandLine
pub mod Faults
pub mod Heads
pub mod Input
pub mod Options
pub mod Plans
pub mod Requests
pub mod Sessions
pub mod Works
