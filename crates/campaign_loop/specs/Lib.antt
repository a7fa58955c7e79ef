-- What the contracts of a campaign's loop refer to.
pub mod Wires
pub mod Driving
pub mod Rows
pub mod Notes
pub mod Planned
