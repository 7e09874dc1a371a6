-- Laws that other crates cite.
pub mod Scan
pub mod PivotLaws
