-- What the proofs of the crate and of those above it share: runs of bytes, steps of reading, and what answers tell of readings.
pub mod Bytes
pub mod Runs
pub mod Steps
pub mod Told
mod Digits
