-- What the proofs of the crate and of those above it share: cells read field by field, their words, and the search for a cell.
pub mod Cells
pub mod Words
pub mod Bracket
