-- What the proofs of the crate and of those above it share: what answers tell of readings.
pub mod Told
mod NodeNumbers
