mod Divisors
mod Fitting
pub mod LabelPlaces
pub mod SeenNodes
-- Crates below, for the crates above.
pub use Rattle.type_model.proofs.of_osc_base as of_osc_base
