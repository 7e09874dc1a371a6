-- Lemmas for the proofs of this crate: the order of trial, and what an accepted sheet is.
mod Trying
mod Accepted
