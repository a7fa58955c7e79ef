-- What the contracts of the sockets of `meter_server serve` refer to.
pub mod Accepting
pub mod Clients
pub mod Limits
