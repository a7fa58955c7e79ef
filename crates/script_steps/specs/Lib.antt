-- What the contracts of the script table (class 9) refer to.
pub mod Addresses
pub mod Forms
pub mod Law
pub mod Ranges
pub mod Reading
pub mod Table
pub mod Writing
