mod ArgumentRows
pub mod ExprForests
mod ExprSteps
mod LeafForests
mod OtherTokens
mod Steps
