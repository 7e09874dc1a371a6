-- Laws that other crates cite.
pub mod CellLaws
pub mod OrderLaws
pub mod FaceLaws
pub mod Faces
pub mod Subsets
pub mod CoefficientLaws
pub mod BoundaryLaws
pub mod ChainComplex
pub mod PackedLaws
