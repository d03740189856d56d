mod Agreeing
mod DoPlaces
mod FrontFields
pub mod Fronts
mod Placed
mod RowSteps
mod SeenInside
mod SpotSteps
