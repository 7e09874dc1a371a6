-- The order of trial and what a call answers and leaves, for every call.
pub mod Trial
pub mod Write
