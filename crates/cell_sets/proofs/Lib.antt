-- What the proofs of the crate and of those above it share.
pub mod Words
pub mod Sets
pub mod Packed
pub mod Adding
pub mod Own
