-- What the contracts of a fleet's sockets and of their times refer to.
pub mod Activity
pub mod Bound
