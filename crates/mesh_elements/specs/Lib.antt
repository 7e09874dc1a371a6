-- The elements of a mesh.
pub mod Kind
pub mod Listed
pub mod Element
