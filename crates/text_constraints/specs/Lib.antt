pub mod Sites
pub mod Kept
pub mod Elements
pub mod OwnTexts
pub mod Labelled
-- Crates below, for the crates above.
pub use Rattle.program_texts.specs.composition as composition
pub use Rattle.program_texts.specs.program_fields as program_fields
pub use Rattle.program_texts.specs as program_texts
pub use Rattle.scene_places.specs as scene_places
