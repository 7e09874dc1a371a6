-- The laws of the import.
pub mod ElementLaws
pub mod ImportLaws
pub mod SheetLaws
