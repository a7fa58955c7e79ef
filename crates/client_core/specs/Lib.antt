-- What the contracts of a job at one meter refer to: its words, its messages and its outcome.
pub mod Verbs
pub mod Texts
pub mod Replies
pub mod Outcomes
pub mod Steps
pub mod Standing
