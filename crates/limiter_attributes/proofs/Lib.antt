pub mod Again
pub mod InTable
pub mod Profiles
