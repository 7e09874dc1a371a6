-- The laws of closures. `ClosureLaws` says that the closure is what `Form` says.
pub mod RisingLaws
pub mod InsertLaws
pub mod PackedInsertLaws
pub mod CellWithLaws
pub mod SublistLaws
pub mod SectionLaws
pub mod ClosureLaws
pub mod KeepCount
pub mod KeepLaws
