-- What an answer tells.
pub mod Told
