pub mod ProgramLists
pub mod FirstLibrary
