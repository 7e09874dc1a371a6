-- What the proofs of the import share.
mod Ends
mod Listing
mod Gathering
mod Writing
mod Importing
mod Starting
