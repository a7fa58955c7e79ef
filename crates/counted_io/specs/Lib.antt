-- What the contracts of readers and writers that count their failures refer to.
pub mod Counted
pub mod Input
pub mod Lines
pub mod Monitored
