-- What the contracts of frames of the TCP wrapper (IEC 62056-4-7) refer to.
pub mod Header
pub mod Text
pub mod Messages
pub mod Stream
pub mod Law
pub mod Numbers
