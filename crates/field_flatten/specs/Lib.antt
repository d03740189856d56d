pub mod Ends
pub mod Shapes
pub mod Rules
pub mod Points
pub mod Seen
pub mod Exactness
-- Crates below, for the crates above.
pub use Rattle.composition.specs as composition
pub use Rattle.composition.specs.expr_nodes as expr_nodes
pub use Rattle.modifier_rules.specs as modifier_rules
pub use Rattle.osc_base.specs as osc_base
pub use Rattle.composition.specs.cond_inherit as cond_inherit
