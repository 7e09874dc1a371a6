-- What the proofs of the crate share: the operations (`Regions`, `Side`, `Operate`, `Unchanged`).
pub mod Regions
pub mod Side
pub mod Operate
pub mod Unchanged
