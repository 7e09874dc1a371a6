-- A Moore space of order 3 under the definitions of the calls.
-- `Space`: the sheet and what is expected of it; `Examples`: the calls in dimension 1.
pub mod Space
pub mod Examples
