-- What the contracts of dates, times and the seconds that match them refer to.
pub mod Fields
pub mod Reading
pub mod Calendar
pub mod Matching
pub mod First
pub mod Moment
pub mod Numbers
