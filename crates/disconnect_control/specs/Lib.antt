-- What the contracts of the supply switch (class 70) refer to.
pub mod Attributes
pub mod Control
pub mod Transitions
