-- What the contracts of block transfer (IEC 62056-5-3) refer to.
pub mod Limits
pub mod Transfer
pub mod Sending
pub mod Joining
pub mod Blocks
pub mod Law
pub mod Numbers
