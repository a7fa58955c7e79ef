pub mod Moving
pub mod Fronts
pub mod Lookups
mod Clients
mod Passwords
pub mod Requests
pub mod Accepting
pub mod Due
