-- Laws that other crates cite.
pub mod Power
pub mod Ring
pub mod Solve
pub mod Order
pub mod Divides
pub mod Floor
pub mod Residue
pub mod ResidueRemainder
pub mod Truncate
