-- What the proofs of the crate share.
mod Some
