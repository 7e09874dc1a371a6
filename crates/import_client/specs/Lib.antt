-- What the imports answer and leave on texts and slices written out.
pub mod Used
