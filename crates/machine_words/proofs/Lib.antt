-- Laws that other crates cite.
pub mod Mirrored
pub mod Product
pub mod Sum
pub mod Division
pub mod Tests
