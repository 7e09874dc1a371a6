-- The sweep call: what it answers and writes (`Sweep`), and what it means that it has written a sheet (`Swept`). `Examples` has sheets and what becomes of them.
pub mod Sweep
pub mod Swept
pub mod Cases
pub mod Examples
