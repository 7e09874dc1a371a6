-- Laws that other crates cite.
pub mod Reduced
pub mod ChainLaws
pub mod PresentationLaws
pub mod Shift
pub mod SmithChain
pub mod Kernel
pub mod Coordinates
pub mod Fillings
pub mod Presents
pub mod CoordinateList
pub mod BoundaryLaws
pub mod Unique
pub mod Coefficients
