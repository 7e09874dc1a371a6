-- Laws that other crates cite.
pub mod DigitsLaws
pub mod LineLaws
pub mod TextLaws
