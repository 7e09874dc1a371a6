-- Laws that other crates cite.
pub mod Pieces
pub mod LayoutLaws
pub mod LooseLaws
pub mod Accept
pub mod WrittenLaws
pub mod Prefix
