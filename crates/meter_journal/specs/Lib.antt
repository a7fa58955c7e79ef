-- What the contracts of a meter's journal refer to: the lines in its file, what its relay is given,
-- and its faults.
pub mod Faults
pub mod Relaying
pub mod Saving
