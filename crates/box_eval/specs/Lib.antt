pub mod Bounded
pub mod Box
pub mod FlatRules
pub mod Reach
pub mod Reads
pub mod Rules
pub mod Truth
pub mod Verdict
