mod Parts
mod Closing
mod Sections
