-- What the contracts of switching campaigns refer to: jobs, conversations and reports.
pub mod Connections
pub mod Logs
pub mod Wires
pub mod Conversations
pub mod Attempts
pub mod Rows
pub mod Campaigns
pub mod Rounds
pub mod Reports
pub mod Jobs
pub mod JobPasswords
pub mod Laws
pub mod Numbers
