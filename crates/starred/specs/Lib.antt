-- The starred sheets of document 01, "Sheets to try", calls on many chains and calls for a surface, under the definitions of the calls.
-- `Case`: a call and what it is to answer and leave; `Same`: a test that two results of a call are the same; `DoneCases`, `RefusedCases`, `ListCases`,
-- `SurfaceCases`: the table; `Starred`: every case of the table is good.
pub mod Same
pub mod Case
pub mod DoneCases
pub mod RefusedCases
pub mod ListCases
pub mod SurfaceCases
pub mod Starred
