-- What the contracts of a meter's events and replies refer to: their kinds.
pub mod Kinds
