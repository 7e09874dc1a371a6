-- What the proofs of the crate share: the entries of a matrix (`Held`, `Entries`), the rows that are reported (`Rows`),
-- slices that are written number by number (`Writing`), and the terms of the surface (`Terms`).
pub mod Held
pub mod Entries
pub mod Rows
pub mod Writing
pub mod Terms
