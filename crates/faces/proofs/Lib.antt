-- What the proofs of the crate and of those above it share: what an accepted sheet holds, the column of a cell face by face, sums over the faces of a
-- cell, and signs.
pub mod Sheet
pub mod Column
pub mod Sums
pub mod Signs
