-- What the proofs of the crate share.
pub mod Holding
pub mod Operations
pub mod Subtraction
pub mod Places
