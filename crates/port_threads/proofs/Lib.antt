pub mod Counting
pub mod Going
pub mod Static
pub mod PortsKept
pub mod Working
