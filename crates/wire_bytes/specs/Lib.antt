-- What the contracts of readers of bytes refer to: formats, and the result of reading one.
pub mod ByteFormats
pub mod Choice
pub mod Format
pub mod Outcome
pub mod Reading
