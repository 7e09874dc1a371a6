-- What the contracts of src/ cite.
pub mod Words
pub mod Insert
pub mod Set
pub mod Vertices
pub mod Close
