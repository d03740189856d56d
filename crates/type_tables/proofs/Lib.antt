mod Ascending
mod DeclaredTypes
mod MemberFields
mod NamedInParts
mod FieldSpans
mod ListLengths
mod SeenInside
pub mod Firsts
pub mod FlatParts
pub mod SharedLists
-- Crates below, for the crates above.
pub use Rattle.type_members.proofs as of_type_members
