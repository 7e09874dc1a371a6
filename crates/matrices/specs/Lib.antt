-- Finite sums and matrices of any size over the whole numbers. A matrix is a function of row and column; sizes stand beside it.
pub mod Sum
pub mod Matrix
pub mod Operation
pub mod Within
pub mod Vector
