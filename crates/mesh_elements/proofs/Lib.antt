-- The faults of an element, and what the tests tell of it.
mod Faults
mod Places
mod Checking
