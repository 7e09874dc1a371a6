-- Laws of the reduction: it ends, it leaves a Smith normal form with right companions, and at which other entry limits it is done as well.
pub mod Tables
pub mod Steps
pub mod StageLaws
pub mod Bounded
pub mod LinesLaws
pub mod Shape
pub mod Scans
pub mod Moves
pub mod Pass
pub mod Led
pub mod Letters
