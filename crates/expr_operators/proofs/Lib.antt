pub mod Exponents
pub mod NoReads
pub mod Pairs
