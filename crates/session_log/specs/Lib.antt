-- What the contracts of a server's log refer to: the meaning of answers, their count, and the words
-- of a diagnostic.
pub mod Answers
pub mod Counts
pub mod Reasons
