-- What the functions of the import answer and leave.
pub mod Nodes
pub mod Gather
pub mod Elements
pub mod Closure
