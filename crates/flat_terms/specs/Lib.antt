pub mod Joins
-- Crates below, for the crates above.
pub use Rattle.box_eval.specs as box_eval
pub use Rattle.field_flatten.specs.composition as composition
pub use Rattle.field_flatten.specs as field_flatten
pub use Rattle.field_flatten.specs.modifier_rules as modifier_rules
