-- What the contracts of src/ cite beside document 01's definitions.
pub mod Word
pub mod Section
pub mod Find
