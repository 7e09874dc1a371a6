-- What the contracts of src/ cite.
pub mod HostAnswers
pub mod Lists
pub mod Given
