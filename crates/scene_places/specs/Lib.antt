pub mod Placed
-- Crates below, for the crates above.
pub use Rattle.scene_texts.specs.expansion_laws as expansion_laws
pub use Rattle.scene_texts.specs as scene_texts
