-- Lemmas for the proofs of this crate: the size of a signed number in words, and the texts that the loops and the first line of a report put.
mod Size
mod Fields
mod Heading
mod Generators
