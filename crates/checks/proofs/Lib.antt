-- Lemmas for the proofs of this crate and of those above it: loops that scan for a fault, and the checks section by section.
pub mod Scan
mod Sections
