pub mod ListSteps
pub mod LineSteps
pub mod Relations
pub mod EqualSteps
pub mod InitialForms
pub mod ScopeSteps
pub mod HomedTexts
pub mod KeptTexts
pub mod ElementTexts
mod LabelSteps
mod PartSteps
