-- Crates below, for the crates above.
pub use Rattle.scenario_tool.proofs.of_program_load as of_program_load
