-- What the contracts of src/ cite: how a state of the reduction lies in the slice.
pub mod Laid
