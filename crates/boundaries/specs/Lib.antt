-- What the contracts of src/ cite.
pub mod Filled
pub mod Column
