-- What the contracts of the command line of `head_end` refer to: its lists of jobs,
-- options, passwords and faults.
pub mod Counted
pub mod Doubles
pub mod Faults
pub mod Filters
pub mod Lists
pub mod Options
pub mod Passwords
pub mod PlanFaults
