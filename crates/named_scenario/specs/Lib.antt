pub mod Declarations
pub mod Found
pub mod Naming
pub mod Own
-- Crates below, for the crates above.
pub use Rattle.program_uses.specs.composition as composition
pub use Rattle.program_uses.specs.program_members as program_members
pub use Rattle.program_uses.specs.type_heads as type_heads
