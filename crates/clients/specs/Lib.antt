-- What the public calls answer and leave on the hollow triangle, and the surface calls on the filled one, written out.
pub mod Hollow
pub mod Filled
pub mod Used
