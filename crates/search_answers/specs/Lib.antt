pub mod AcceptedTexts
pub mod SearchAnswers
pub mod Searches
pub mod SpentBoxes
pub mod Tries
-- Crates below, for the crates above.
pub use Rattle.scene_search.specs.box_eval as box_eval
pub use Rattle.scene_search.specs.record_trees as record_trees
pub use Rattle.scene_search.specs.record_laws as record_laws
pub use Rattle.command_replies.specs.record_text as record_text
pub use Rattle.scene_search.specs as scene_search
