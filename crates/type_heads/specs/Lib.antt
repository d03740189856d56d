pub mod Form
pub mod Table
pub mod Types
pub mod Bounds
pub mod Members
pub mod Conditions
pub mod Told
pub mod Seen
pub mod Shown
pub mod Names
pub mod EnumNames
pub mod Ancestors
pub mod Extending
pub mod Grouped
pub mod Gathered
pub mod Numbering
pub mod Exponents
pub mod HeadsGrouped
pub mod UnitsPlaced
pub mod Bodied
pub mod Placing
pub mod Texts
pub mod Units
pub mod DeclaredTypes
pub mod Cycles
pub mod HeadingFaults
pub mod MemberFaults
-- Crates below, for the crates above.
pub use Rattle.name_scope.specs.dsl_tree as dsl_tree
pub use Rattle.name_scope.specs as name_scope
pub use Rattle.units_si.specs.osc_base as osc_base
pub use Rattle.units_si.specs as units_si
