-- What the proofs of both calls share.
mod Told
