-- What the contracts of src/ cite beside the definitions of `mesh_format`.
pub mod Nodes
pub mod Tells
