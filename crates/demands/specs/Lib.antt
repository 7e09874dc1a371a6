-- The owner's demands, sentence by sentence. In reading order: `Sheets`, what is accepted; `Calls`, which number is told, what is left and what is written;
-- `Answers`, the mathematics of reports and coordinates; `Surfaces`; `Headroom`; `Host`, the host calls beside the library's; `Sweeps`; `Meshes`, the import; `Program`; `Words`.
-- `Consequences` follow from the others. proofs/ proves each claim and, in the files named `Use`, takes a concrete consequence from each.
pub mod Sheets
pub mod Calls
pub mod Answers
pub mod Surfaces
pub mod Headroom
pub mod Host
pub mod Sweeps
pub mod Meshes
pub mod Program
pub mod Words
pub mod Consequences
