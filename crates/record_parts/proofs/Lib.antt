pub mod AsciiTexts
