pub mod ElementSteps
pub mod WorkParts
pub mod ArgumentSteps
pub mod BoundPaths
