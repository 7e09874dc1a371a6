-- The import of a mesh text: the call, and what it answers and writes. Its laws are `proofs/ImportLaws` and `proofs/SheetLaws`.
pub mod Import
pub mod Sheet
pub mod Examples
