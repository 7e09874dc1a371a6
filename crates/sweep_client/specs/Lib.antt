-- What the sweeps answer and leave on sheets and slices written out.
pub mod Used
