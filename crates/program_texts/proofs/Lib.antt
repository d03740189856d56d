pub mod TypeRows
pub mod ConditionSteps
pub mod AskedOnce
pub mod ExprKinds
pub mod HeldLabels
-- Crates below, for the crates above.
pub use Rattle.program_fields.proofs as of_program_fields
pub use Rattle.scene_texts.proofs as of_scene_texts
