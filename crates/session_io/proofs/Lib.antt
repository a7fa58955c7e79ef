pub mod Replies
pub mod Reaching
pub mod Sessions
pub mod HexSessions
pub mod Ordering
pub mod Sent
pub mod Valueless
pub mod HexTexts
