-- Mesh texts: what they tell, their form, and reading them. That reading and the form agree is `proofs/Accept`.
pub mod Mesh
pub mod Words
pub mod Form
pub mod Parse
pub mod Examples
