-- What the contracts of blocks of samples and their masks refer to.
pub mod Inside
pub mod Masks
pub mod Runs
pub mod Samples
pub mod Scans
pub mod Numbers
