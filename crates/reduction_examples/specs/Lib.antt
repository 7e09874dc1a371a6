-- The reduction of document 01 on small matrices.
-- `Case`: a matrix and what is to become of it; `Same`: a test that two outcomes are the same; `StepCases`, `LimitCases`, `PeakCases`: the table;
-- `Examples`: every case of the table is good.
pub mod Same
pub mod Case
pub mod StepCases
pub mod LimitCases
pub mod PeakCases
pub mod Examples
