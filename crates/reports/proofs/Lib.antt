-- Laws that other crates cite.
pub mod BitsLaws
pub mod ReportLaws
pub mod ReductionsLaws
pub mod WideEndLaws
pub mod WideExamples
