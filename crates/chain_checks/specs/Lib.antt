-- What the contracts of src/ cite.
pub mod Sums
