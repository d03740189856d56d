pub mod TableTypes
pub mod ExprParts
pub mod RuleRows
pub mod FieldRows
pub mod SeenTexts
pub mod ArgumentRows
pub mod CompositionRows
pub mod ModifierRows
pub mod PhaseRows
pub mod InvokedTypes
-- Crates below, for the crates above.
pub use Rattle.program_calls.specs.composition as composition
pub use Rattle.program_members.specs as program_members
pub use Rattle.expr_nodes.specs.type_heads as type_heads
