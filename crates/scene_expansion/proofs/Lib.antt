pub mod Turning
pub mod WalkSteps
pub mod NodesDone
pub mod CountLimits
pub mod WholeScenes
pub mod NamedScenes
-- Crates below, for the crates above.
pub use Rattle.scene_texts.proofs as of_scene_texts
