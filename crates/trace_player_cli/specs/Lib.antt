-- What the contracts of the program `trace_player` refer to: its options and its faults.
pub mod Faults
pub mod Options
