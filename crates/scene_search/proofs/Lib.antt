pub mod Found
-- Crates below, for the crates above.
pub use Rattle.record_laws.proofs as of_record_laws
pub use Rattle.record_laws.proofs.of_refute_check as of_refute_check
pub use Rattle.box_eval.proofs as of_box_eval
pub use Rattle.seeded_search.proofs.of_record_trees as of_record_trees
