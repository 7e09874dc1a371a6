-- What the contracts of src/ cite.
pub mod Slice
pub mod Matrices
