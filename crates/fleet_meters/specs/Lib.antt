-- What the contracts of a fleet of meters and its connections, and the theorems over any number of
-- calls, refer to.
pub mod Calls
pub mod Clients
pub mod FirstStates
pub mod Fleets
pub mod Law
pub mod Lives
pub mod Moments
pub mod Passwords
pub mod Places
pub mod Terms
pub mod Traces
