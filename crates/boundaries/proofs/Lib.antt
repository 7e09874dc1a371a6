-- Lemmas for the proofs of this crate: an entry of a product, what a store leaves of a matrix, and matrices that are made column by column. For the
-- callers: the peak of a slice in which a matrix is written.
pub mod Filled
mod Products
mod Store
mod Columns
