-- What the contracts of a limiter's attributes (class 71) as Data refer to.
pub mod Attributes
pub mod Forms
pub mod Law
pub mod Reading
pub mod Settings
pub mod Writing
