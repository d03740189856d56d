pub mod Booleans
pub mod SourceNumbers
pub mod SourceTokens
pub mod TreeTests
pub mod LeafCounts
pub mod TreeCounts
pub mod FormedTrees
pub mod LoadedFiles
pub mod LibraryTokens
pub mod LibraryTree
pub mod LibraryThere
pub mod LibraryLimits
pub mod LoadedPrograms
-- Crates below, for the crates above.
pub use Rattle.checkable_scenes.proofs as of_checkable_scenes
pub use Rattle.checkable_scenes.proofs.of_field_flatten as of_field_flatten
pub use Rattle.program_load.proofs as of_program_load
pub use Rattle.checkable_scenes.proofs.of_scene_laws as of_scene_laws
pub use Rattle.dsl_lexer.proofs as of_dsl_lexer
