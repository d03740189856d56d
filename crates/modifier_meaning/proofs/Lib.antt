pub mod Lists
pub mod PutLaws
pub mod Readings
pub mod Forms
pub mod Parts
pub mod Texts
pub mod Members
pub mod Bodies
pub mod Scopes
pub mod OwnGivens
pub mod Expansions
pub mod ScenesKept
pub mod NothingUnfolded
pub mod UnfoldedFiles
mod Worked
