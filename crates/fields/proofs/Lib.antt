-- What the proofs of the crate and of those above it share: the size of an offset.
pub mod Offset
