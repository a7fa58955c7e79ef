pub mod AsciiTexts
pub mod ReplyTexts
