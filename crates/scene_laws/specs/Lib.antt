pub mod Premises
pub mod SceneLaws
-- Crates below, for the crates above.
pub use Rattle.expansion_laws.specs.name_scope as name_scope
