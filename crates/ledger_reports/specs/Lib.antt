-- What the contracts of the texts and answers about a ledger refer to.
pub mod Answers
pub mod Status
