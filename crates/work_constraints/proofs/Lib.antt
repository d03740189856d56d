pub mod RequiredTexts
pub mod InvocationTexts
pub mod ArgumentSteps
