-- What the contracts of a session over a reader and a writer refer to: its bytes and its calls.
pub mod Answering
pub mod Hexadecimal
pub mod Meters
pub mod Numbers
pub mod Order
pub mod Serving
pub mod Settling
pub mod Sides
