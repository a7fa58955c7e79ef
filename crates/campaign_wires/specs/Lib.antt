-- What the contracts of a campaign's connections refer to: their messages, and when they are late.
pub mod Outboxes
pub mod Timing
