-- What the proofs of the crate and of those above it share: the state that a slice holds (`States`), what the code reads of it (`Words`), and the
-- steps b to d (`Brings`, `Passes`).
pub mod States
pub mod Words
mod Brings
mod Passes
