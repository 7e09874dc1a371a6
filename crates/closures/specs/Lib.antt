-- The complex of some cells: they and their nonempty subsets. `Rising`, `Insert`, `Closure` and `Form` have the definitions, `Examples` some closures
-- worked out by hand. That the closure is what `Form` says is `proofs/ClosureLaws`. `Keep` is some of the cells of a complex.
pub mod Insert
pub mod Closure
pub mod Form
pub mod Examples
pub mod Rising
pub mod Keep
