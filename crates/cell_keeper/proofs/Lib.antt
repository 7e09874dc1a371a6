-- What the proofs of the crate share.
mod Staying
mod Putting
