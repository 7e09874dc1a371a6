-- Laws that other crates cite.
pub mod SumLaws
pub mod Product
pub mod OperationLaws
pub mod Inverse
pub mod VectorLaws
