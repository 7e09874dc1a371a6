-- Lemmas for the proofs of this crate: the field of a vertex, the map of the vertices of the edges, loose nodes by it, and marks of them.
mod Vertex
mod EdgeMap
mod LooseByMap
mod Marking
