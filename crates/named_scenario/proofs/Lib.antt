pub mod DeclaredScenario
pub mod FirstFaults
