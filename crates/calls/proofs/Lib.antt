-- What the proofs of the crate share: that what the two reductions leave can be written (`Writing`), the refusals before them (`Refusals`), what
-- `admit` answered (`Admitting`), the early checks (`EarlyChecks`, `ListChecks`), and what the calls answer (`Answering`, `ReportAnswers`, `ListAnswers`,
-- `SurfaceAnswers`).
pub mod Writing
mod Refusals
pub mod Admitting
mod Answering
mod EarlyChecks
pub mod ListChecks
mod ReportAnswers
mod ListAnswers
mod SurfaceAnswers
