pub mod Again
pub mod InRange
pub mod Listed
pub mod Tables
