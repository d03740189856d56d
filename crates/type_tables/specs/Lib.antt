pub mod Entries
pub mod FieldEnds
pub mod InParts
pub mod Looked
pub mod Places
-- Crates below, for the crates above.
pub use Rattle.type_members.specs as type_members
