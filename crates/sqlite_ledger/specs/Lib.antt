-- What the contracts of a ledger in an SQLite database, and of a file of answers, refer to: the
-- tables, the marks, the outcomes and the answers.
pub mod Answers
pub mod AnswersSchema
pub mod AtRest
pub mod Campaigns
pub mod EntryCode
pub mod Groups
pub mod Jobs
pub mod Lines
pub mod Marks
pub mod OpenFaults
pub mod Outcomes
pub mod Readings
pub mod Schema
pub mod Streams
pub mod Taken
