-- Laws that other crates cite.
pub mod Run
pub mod Peaks
pub mod Done
pub mod Tracked
pub mod Leading
pub mod Stage
pub mod Views
pub mod Reached
pub mod Descent
pub mod Ends
pub mod OtherLimit
pub mod LeastLimit
pub mod SmithForm
