-- What the contracts of src/ cite.
pub mod Unmarked
pub mod Keeps
