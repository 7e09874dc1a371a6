-- What the proofs of this crate share.
mod Dimension
mod Dimensions
mod Program
