pub mod ServedKeys
pub mod Closing
pub mod Meeting
pub mod Rounding
pub mod Lawful
