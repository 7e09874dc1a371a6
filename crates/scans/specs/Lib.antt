-- What the contracts of src/ cite: what the scans answer.
pub mod Scan
