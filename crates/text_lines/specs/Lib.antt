-- What the contracts of a text's lines and words refer to, with decimals and hexadecimal.
pub mod Hexadecimal
pub mod Lines
pub mod Numbers
pub mod Parts
pub mod Taken
pub mod Words
