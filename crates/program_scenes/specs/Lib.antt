pub mod SceneFound
-- Crates below, for the crates above.
pub use Rattle.named_scenario.specs as named_scenario
pub use Rattle.named_scenario.specs.type_heads as type_heads
