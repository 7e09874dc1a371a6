-- What the proofs of the crate share: what the tests of a stage read (`Tests`), the steps of a stage (`Measures`, `Stages`), and the loop over the
-- stages (`Reductions`).
mod Tests
mod Measures
mod Stages
mod Reductions
