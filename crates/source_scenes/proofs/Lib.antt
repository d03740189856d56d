pub mod Loads
pub mod Named
pub mod SoundNamed
pub mod Large
pub mod Sole
pub mod Total
-- Crates below, for the crates above.
pub use Rattle.loaded_programs.proofs.of_checkable_scenes as of_checkable_scenes
pub use Rattle.loaded_programs.proofs.of_field_flatten as of_field_flatten
pub use Rattle.loaded_programs.proofs as of_loaded_programs
pub use Rattle.loaded_programs.proofs.of_scene_laws as of_scene_laws
pub use Rattle.loaded_programs.proofs.of_dsl_lexer as of_dsl_lexer
pub use Rattle.dsl_tree.proofs as of_dsl_tree
