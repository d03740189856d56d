pub mod Accepted
pub mod NoRun
pub mod ShortEnds
pub mod TextLengths
pub mod Tries
