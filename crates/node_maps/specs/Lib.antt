-- Sets of vertex numbers.
pub mod Map
