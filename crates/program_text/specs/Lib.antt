-- The text that the program prints: document 01, "What the program prints". The files named `Laws` say what the definitions come to; `Examples` holds
-- them to texts, `TextCases` is its table.
pub mod Text
pub mod TextCases
pub mod Examples
