-- The reduction of document 01 as a definition: tables, the operations on their lines, the state with its companions, the pivot rule, and the steps a to e.
-- `Scan` and `PivotLaws`: what the pivot rule chooses. `Examples`: single steps on small matrices.
pub mod Table
pub mod Lines
pub mod State
pub mod Pivot
pub mod Step
pub mod Examples
