-- What the contracts of the program `meter_server` refer to: how `serve` begins and ends.
pub mod Beginnings
pub mod Endings
