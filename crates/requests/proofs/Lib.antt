-- Laws that other crates cite.
pub mod CheckLaws
pub mod ChainsLaws
pub mod CallLaws
pub mod ListsLaws
