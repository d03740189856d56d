pub mod ListedRows
pub mod ConditionRows
pub mod NamePlaces
pub mod RowFacts
