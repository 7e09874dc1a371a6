-- What the contracts of src/ cite beside the definitions of `mesh_format`.
pub mod Class
pub mod Steps
pub mod Tells
