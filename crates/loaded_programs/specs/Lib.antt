pub mod TokenLaws
pub mod TreeLaws
pub mod LoadLaws
-- Crates below, for the crates above.
pub use Rattle.checkable_scenes.specs.composition as composition
pub use Rattle.checkable_scenes.specs.field_flatten as field_flatten
pub use Rattle.program_load.specs as program_load
pub use Rattle.checkable_scenes.specs.run_values as run_values
pub use Rattle.checkable_scenes.specs.scene_laws as scene_laws
pub use Rattle.outside_io.specs as outside_io
pub use Rattle.dsl_lexer.specs as dsl_lexer
