pub mod MemberPaths
pub mod ModifierLaws
mod RangeEnds
mod Nodes
mod ArgumentLaws
mod ArgumentSteps
mod PhaseLaws
mod WorkForms
