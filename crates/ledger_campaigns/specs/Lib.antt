-- What the contracts of switching campaigns on a ledger and of the questions after them refer to.
pub mod AskedMeters
pub mod Campaigns
pub mod Desks
pub mod Notes
pub mod Questions
pub mod Rounds
pub mod Texts
pub mod Uses
