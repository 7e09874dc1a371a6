-- What the proofs of the crate and of those above it share.
pub mod Bytes
