-- What the proofs of the crate share.
pub mod Peaks
pub mod Entries
pub mod Parts
pub mod Store
pub mod Blocks
pub mod Spans
pub mod UpTo
