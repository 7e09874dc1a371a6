-- The host calls: numbers as bytes, and what the calls answer and leave. The files named `Laws` say what the definitions come to.
pub mod Bytes
pub mod Host
pub mod HostListsLaws
pub mod HostCases
pub mod Examples
