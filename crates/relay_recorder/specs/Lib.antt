-- What the contracts of a recorder refer to: a meter's last events, and the core before them.
pub mod Histories
pub mod Recording
pub mod Replaying
