-- What the contracts of views of a trace refer to: the lines of its run that a view selects.
pub mod Fronts
pub mod Plays
pub mod Views
