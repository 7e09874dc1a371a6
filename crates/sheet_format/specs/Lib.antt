-- The sheet as bytes: its layout, and the checks 1 to 7 and 18.
pub mod Layout
pub mod Check
pub mod Sheet
pub mod Written
pub mod CheckLaws
pub mod SheetLaws
pub mod OrderCases
pub mod Starred
