pub mod Framed
pub mod Courses
pub mod Rows
-- Crates below, for the crates above.
pub use Rattle.expr_value.proofs as of_expr_value
pub use Rattle.field_flatten.proofs as of_field_flatten
pub use Rattle.field_flatten.proofs.of_composition as of_composition
