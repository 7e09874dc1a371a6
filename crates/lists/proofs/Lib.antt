-- Laws that other crates cite.
pub mod TabulateLaws
pub mod SplicesLaws
