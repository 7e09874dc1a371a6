-- Bits of a byte, and the empty map.
mod Bits
pub mod EmptyMap
