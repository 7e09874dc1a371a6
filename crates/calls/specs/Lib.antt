-- What the contracts of src/ cite.
pub mod Admission
pub mod CallAnswers
