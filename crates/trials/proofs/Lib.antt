-- Laws that other crates cite.
pub mod FirstLaws
pub mod TrialLaws
pub mod WriteLaws
