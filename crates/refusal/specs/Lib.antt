-- The numbers of the refusals, and the answers of calls that write a sheet.
pub mod Number
pub mod NumberLaws
pub mod Told
pub mod Written
