-- Simplicial complexes as lists of cells, their words and their boundary matrices. `Cell`, `Complex`, `Packed` and `Boundary` have the definitions,
-- `Examples` the order and the words of some cells and the matrices of a tetrahedron.
pub mod Cell
pub mod Complex
pub mod Loose
pub mod Boundary
pub mod Packed
pub mod Examples
