-- What the proofs of the crate share: products of counts (`Room`), where the matrices stand (`Places`), the sheet (`Sheet`), the start of the first
-- reduction (`Filling`), the transform that is kept (`Kept`) and the start of the second (`Between`), what the two come to (`Outcomes`), and that in a part of the slice (`Part`).
pub mod Room
pub mod Places
pub mod Sheet
mod Filling
mod Between
mod Kept
mod Outcomes
mod Part
