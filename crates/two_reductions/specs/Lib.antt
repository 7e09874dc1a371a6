-- What the contracts of src/ cite: the cell counts of a dimension, where its two reductions have their matrices, and what the two come to.
pub mod CellCounts
pub mod Workspaces
pub mod Slices
