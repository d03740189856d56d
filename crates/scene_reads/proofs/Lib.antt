pub mod DrivenPaths
pub mod KeptItems
pub mod ReadRows
