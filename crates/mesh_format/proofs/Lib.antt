-- The laws of mesh texts. `Accept` says that reading and the form agree.
pub mod ReadLaws
pub mod Spans
pub mod RunLaws
pub mod WordLaws
pub mod StepLaws
pub mod LineLaws
pub mod ElementLaws
pub mod LinesLaws
pub mod ClosingLaws
pub mod SectionLaws
pub mod PartLaws
pub mod Accept
pub mod WalkLaws
