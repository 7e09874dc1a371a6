-- What the contracts of src/ cite, and its laws.
pub mod Put
pub mod PutLaws
pub mod Room
