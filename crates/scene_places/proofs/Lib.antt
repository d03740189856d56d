-- Crates below, for the crates above.
pub use Rattle.scene_texts.proofs as of_scene_texts
