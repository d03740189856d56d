pub mod Programs
pub mod Sources
pub mod SoundScenes
pub mod FoundScenes
-- Crates below, for the crates above.
pub use Rattle.loaded_programs.specs.field_flatten as field_flatten
pub use Rattle.program_scenes.specs.named_scenario as named_scenario
pub use Rattle.loaded_programs.specs.program_load as program_load
pub use Rattle.loaded_programs.specs.scene_laws as scene_laws
pub use Rattle.name_scope.specs as name_scope
pub use Rattle.dsl_tree.specs as dsl_tree
pub use Rattle.loaded_programs.specs.outside_io as outside_io
pub use Rattle.loaded_programs.specs.dsl_lexer as dsl_lexer
