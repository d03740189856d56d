pub mod Ends
pub mod Relations
pub mod RelationRules
