-- Laws that other crates cite.
pub mod BytesLaws
pub mod HostChainsLaws
pub mod HostCallLaws
