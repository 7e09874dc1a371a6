-- The homology group of two matrices A (m rows, n columns) and B (n rows, l columns) with A B = 0: cycles modulo boundaries.
-- Definitions: `Chain`, `Presentation`, `Reduced`. From two Smith certificates to generators and coordinates, for all sizes:
-- `Coordinates`, `Presents`, `CoordinateList`. `Unique`: the orders of all presentations; `Coefficients`: the coefficients of a chain.
pub mod Chain
pub mod Presentation
