-- What the contracts of src/ cite beside the checks of a sheet.
pub mod Loose
