-- The projective plane of document 01, "Sheets to try", the doubling tower with one floor, under the definitions of the calls.
-- `Plane`: the sheet and what is expected of it; `Examples`: the calls in dimension 1, and where the reductions go too wide at the limit 1.
pub mod Plane
pub mod Examples
