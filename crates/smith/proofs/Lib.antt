-- Laws that other crates cite.
pub mod Certificate
pub mod CertificateLaws
pub mod Diagonal
pub mod Rank
pub mod Bezout
pub mod Annihilator
pub mod Divisors
pub mod Rectangle
pub mod UniqueFactors
