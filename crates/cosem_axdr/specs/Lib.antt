-- What the contracts of Data values and their A-XDR encoding refer to.
pub mod Appending
pub mod Equality
pub mod EqualityLaws
pub mod Falls
pub mod Forms
pub mod Formats
pub mod Limits
pub mod Reading
pub mod Spelling
pub mod Stored
pub mod Tree
pub mod View
pub mod ViewLaws
pub mod Numbers
