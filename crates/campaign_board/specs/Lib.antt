-- What the contracts of a campaign's board refer to.
pub mod Lives
pub mod Talks
pub mod Histories
pub mod Updates
pub mod Boards
pub mod Building
