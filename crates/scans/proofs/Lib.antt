-- What the proofs of the crate share: the scans for a remainder (`Tests`) and for a pivot (`Choosing`, `Scanning`).
mod Tests
mod Choosing
mod Scanning
