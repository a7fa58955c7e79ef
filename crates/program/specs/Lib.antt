-- What the contracts that all programs share refer to: beginning, options, end, exit status and
-- passwords.
pub mod Ends
pub mod Options
pub mod Passwords
pub mod Statuses
pub mod Values
