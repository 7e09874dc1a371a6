-- Lists made from a function of the place.
pub mod Tabulate
pub mod Splice
pub mod SpliceLaws
pub mod Same
