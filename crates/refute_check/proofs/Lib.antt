pub mod Closes
pub mod Laws
pub mod MissingRules
pub mod Verdicts
pub mod Walking
pub mod Walks
